use Rattle.std.proofs.Common.{◌≡◌, ◌++◌, ℕ, List}
use Rattle.wf_replica_command.specs.Conversation.{part_written}
use Rattle.wf_replica_command.proofs.source.send.Given as goal

abbrev pub invariant-loop : goal.invariant-loop
invariant-loop g l = (l.asked.question ≡ l.fn.asked.question)
    × (g.C.Connection.came l.connection ≡ g.C.Connection.came l.fn.connection)
    × ((front : List ℕ) → g.C.Connection.sent l.fn.connection ≡ front ++ part_written l.fn.asked → g.C.Connection.sent l.connection ≡ front ++ part_written l.asked)
