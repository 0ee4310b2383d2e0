-- What was heard before is in the folder, and the node was served.
use Rattle.wf_node_command.proofs.Served.{heard_at_start, served_first}
use Rattle.wf_node_command.proofs.serve.serve.Goals as goal
use Rattle.wf_node_folder.specs.Folder.{calls_in}

pub take_turns-requires : goal.take_turns-requires
take_turns-requires g c = record {
  heard = heard_at_start g.S.Tape.Tape c.args.ready c.in-Ok.event_loop c.of-node.result.event_loop (g.S.Store.calls c.args.store) (g.S.Store.calls c.of-node.result.folder.running.store) c.requires.fresh c.in-Ok.ensures.process
      c.in-Ok.ensures.kept c.of-node.ensures.event_loop c.of-node.ensures.same;
}

pub returns-in-Ok : goal.returns-in-Ok
returns-in-Ok g c =
    served_first g.S.Tape.Tape c.args.ready c.in-Ok.event_loop c.of-node.result.event_loop (g.S.Store.calls c.args.store) (calls_in g.S.Store.calls c.of-node.result.folder.running.began.items) (g.S.Store.calls c.take_turns.result)
    c.requires.fresh c.in-Ok.ensures.process c.of-node.ensures.event_loop c.in-Ok.ensures.joins c.in-Ok.ensures.membership c.of-node.ensures.began c.take_turns.ensures.on c.take_turns.ensures.stays
