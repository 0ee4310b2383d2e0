-- The node is appended.
use Rattle.std.proofs.Common.{sym, subst}
use Rattle.wf_serve.specs.OpenedNodes.{AreOpened}
use Rattle.wf_serve.proofs.Opened.{one_more}
use Rattle.wf_serve.proofs.node_start.put.Goals as goal

pub returns-in-Ok-clause-opened : goal.returns-in-Ok-clause-opened
returns-in-Ok-clause-opened g c =
    subst (AreOpened c.args.n) (sym c.in-Ok.ensures.items) (one_more c.args.n c.args.hosts.now.items c.args.node c.requires.opened c.requires.next c.requires.of c.requires.read)
