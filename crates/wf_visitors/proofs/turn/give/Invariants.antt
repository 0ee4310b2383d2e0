use Rattle.wf_visitors.specs.Turn.{IsGiving}
use Rattle.wf_visitors.proofs.turn.give.Given as goal

abbrev pub invariant-loop : goal.invariant-loop
invariant-loop g l = IsGiving (g.C.Connection.came l.fn.connection) (g.C.Connection.sent l.fn.connection) l.fn.client (g.C.Connection.came l.connection) (g.C.Connection.sent l.connection) l.client
