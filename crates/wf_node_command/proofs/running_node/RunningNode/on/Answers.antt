-- What was heard before is in the folder.
use Rattle.std.proofs.Common.{refl}
use Rattle.wf_node_command.proofs.Served.{heard_at_start}
use Rattle.wf_node_command.proofs.running_node.RunningNode.on.Goals as goal

pub returns-in-Ok-clause-heard : goal.returns-in-Ok-clause-heard
returns-in-Ok-clause-heard g c =
    heard_at_start g.S.Tape.Tape c.args.ready c.in-Ok.event_loop c.of.result.event_loop (g.S.Store.calls c.args.store) (g.S.Store.calls c.args.store) c.requires.fresh c.in-Ok.ensures.process c.in-Ok.ensures.kept c.of.ensures.event_loop refl
