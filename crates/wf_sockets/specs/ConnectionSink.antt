-- A connection as a sink.
use Rattle.std.specs.Prelude.{ℕ}
use Rattle.wf_sockets.specs.declared.sink.ConnectionSink.{ConnectionSink}

-- the connection
abbrev pub connection_of : {C : Type 0} → ConnectionSink C → C
connection_of sink = sink.connection.now

-- the number of failed writes
abbrev pub failures_of : {C : Type 0} → ConnectionSink C → ℕ
failures_of sink = sink.failures
