use Rattle.std.proofs.Common.{◌≡◌, ◌++◌, ℕ, List}
use Rattle.wf_replica_command.proofs.source.receive.Given as goal

abbrev pub invariant-loop : goal.invariant-loop
invariant-loop g l = ((front : List ℕ) → g.N.Connection.Connection.came l.fn.connection ≡ front ++ l.fn.came.items → g.N.Connection.Connection.came l.connection ≡ front ++ l.came.items)
    × (g.N.Connection.Connection.sent l.connection ≡ g.N.Connection.Connection.sent l.fn.connection)
