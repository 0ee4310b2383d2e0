use Rattle.std.specs.Prelude.{◌≡◌}
use Rattle.wf_loop.specs.Continuation.{KeepsEarlier}
use Rattle.wf_loop.specs.EventLoop.{IsHeardFirst, IsOver, membership_of, process_of}
use Rattle.wf_node_command.proofs.serve.run_turns.Given as goal
use Rattle.wf_node_folder.specs.Folder.{calls_in, heard_in}
use Rattle.wf_node_command.specs.Learned.{IsLearner}

abbrev pub invariant-loop : goal.invariant-loop
invariant-loop g l =
    KeepsEarlier g.S.Tape.Tape (process_of l.fn.node.event_loop) (process_of l.node.event_loop)
    × (membership_of l.node.event_loop ≡ membership_of l.fn.node.event_loop)
    × (IsLearner g.S.Tape.Tape l.fn.node.event_loop → IsLearner g.S.Tape.Tape l.node.event_loop)
    × (IsOver l.fn.node.event_loop → l.node.event_loop ≡ l.fn.node.event_loop)
    × (calls_in g.S.Store.calls l.node.folder.running.began.items ≡ calls_in g.S.Store.calls l.fn.node.folder.running.began.items)
    × (IsHeardFirst (heard_in (g.S.Store.calls l.fn.node.folder.running.store)) l.fn.node.event_loop → IsHeardFirst (heard_in (g.S.Store.calls l.node.folder.running.store)) l.node.event_loop)
