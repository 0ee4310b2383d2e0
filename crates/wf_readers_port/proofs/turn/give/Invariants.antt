use Rattle.std.proofs.Common.{◌≡◌, ◌++◌}
use Rattle.wf_client.specs.ResponseBuffer.{rest_of}
use Rattle.wf_readers_port.proofs.turn.give.Given as goal

abbrev pub invariant-loop : goal.invariant-loop
invariant-loop g l = (g.C.Connection.came l.connection ≡ g.C.Connection.came l.fn.connection)
    × (g.C.Connection.sent l.connection ++ rest_of l.reply ≡ g.C.Connection.sent l.fn.connection ++ rest_of l.fn.reply)
