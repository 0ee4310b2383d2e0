-- More came, and nothing was sent.
use Rattle.std.proofs.Common.{◌≡◌}
use Rattle.wf_visitors.specs.Responses.{GoesOnFrom}
use Rattle.wf_visitors.proofs.turn.drop_rest.Given as goal

abbrev pub invariant-loop : goal.invariant-loop
invariant-loop g l = record { came : GoesOnFrom (g.C.Connection.came l.connection) (g.C.Connection.came l.fn.connection); sent : g.C.Connection.sent l.connection ≡ g.C.Connection.sent l.fn.connection }
