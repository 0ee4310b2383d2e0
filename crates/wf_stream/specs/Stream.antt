-- The state of a stream.
use Rattle.std.specs.Prelude.{ℕ}
use Rattle.wf_stream.specs.declared.stream.Stream.{Stream}

-- the reader or writer of std
abbrev pub inner_of : {S : Type 0} → Stream S → S
inner_of stream = stream.inner

-- the number of failed calls
abbrev pub failures_of : {S : Type 0} → Stream S → ℕ
failures_of stream = stream.failures
