use Rattle.wf_visitors.specs.Turn.{IsReceiving}
use Rattle.wf_visitors.proofs.turn.receive.Given as goal

abbrev pub invariant-loop : goal.invariant-loop
invariant-loop g l = IsReceiving (g.N.Connection.Connection.came l.fn.connection.connection) (g.N.Connection.Connection.sent l.fn.connection.connection) l.fn.client (g.N.Connection.Connection.came l.connection.connection) (g.N.Connection.Connection.sent l.connection.connection) l.client
