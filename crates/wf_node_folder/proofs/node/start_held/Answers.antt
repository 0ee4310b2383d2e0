-- A start that was admitted, and stopped.
use Rattle.wf_node_folder.proofs.Starting.{stopped_so}
use Rattle.wf_node_folder.proofs.node.start_held.Goals as goal

pub returns-in-Ok-clause-cause : goal.returns-in-Ok-clause-cause
returns-in-Ok-clause-cause g c =
    stopped_so g.S.Tape.Tape c.args.line.now c.in-Ok.file (g.S.Store.calls c.args.store.now) (g.S.Store.calls c.admit.new.store) (g.S.Store.calls c.start_as.new.store) c.in-Ok.ensures.admit
    c.start_as.result c.start_as.ensures.cause
