-- The folder is locked before anything in it is read.
use Rattle.wf_serve.proofs.Started.{locked_first, rejected_so}
use Rattle.wf_serve.proofs.node_start.open_folder.Goals as goal

pub returns-in-Ok-clause-started : goal.returns-in-Ok-clause-started
returns-in-Ok-clause-started g c = locked_first c.args.n c.open_locked.result _ _ _ c.in-Ok.ensures.ok c.open_locked.ensures.started

pub returns-in-Ok-clause-rejected : goal.returns-in-Ok-clause-rejected
returns-in-Ok-clause-rejected g c = rejected_so c.args.n c.open_locked.result _ _ _ c.lock.ensures.reads c.open_locked.ensures.rejected
