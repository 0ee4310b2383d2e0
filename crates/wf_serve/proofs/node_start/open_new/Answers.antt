-- The mark of the file was drawn first.
use Rattle.wf_serve.proofs.Started.{filed, rejected_so}
use Rattle.wf_serve.proofs.node_start.open_new.Goals as goal

pub returns-in-Ok-clause-filed : goal.returns-in-Ok-clause-filed
returns-in-Ok-clause-filed g c = filed c.args.n c.open_with.result _ _ _ _ _ c.in-Ok.ensures.drawn c.open_with.ensures.written

pub returns-in-Ok-clause-rejected : goal.returns-in-Ok-clause-rejected
returns-in-Ok-clause-rejected g c = rejected_so c.args.n c.open_with.result _ _ _ c.draw_file.ensures.reads c.open_with.ensures.rejected
