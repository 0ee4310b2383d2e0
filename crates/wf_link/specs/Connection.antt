-- What crossed a connection, or why it was lost, over some writer and some reader.
use Rattle.std.specs.Prelude.{◌<◌, ◌⊎◌, ℕ, List, Option, length}
use Rattle.std.specs.Io.KnownBytes.{Appends, Consumes}
use Rattle.wf_codec.specs.Encoding.{spelling}
use Rattle.wf_def.specs.Definition.{Definition}
use Rattle.wf_model.specs.Message.{Message}
use Rattle.wf_stream.specs.Effects.{Rises}
use Rattle.wf_stream.specs.declared.stream.Sink.{Ghosts as Sink}
use Rattle.wf_stream.specs.declared.stream.Source.{Ghosts as Source}
use Rattle.wf_link.specs.Cause.{IsLost}
use Rattle.wf_link.specs.MessageCrossing.{ComesOut}

-- These bytes were written, and no other.
pub record HasSent {K : Type 0} (sinks : Sink K) (bytes : List ℕ) : Type 0 where
  pub sink : K
  pub sink_after : K
  pub written : Appends (sinks.written sink) (sinks.written sink_after) bytes

-- The bytes of the message were written, and as many came out, which are the message that arrived.
pub record HasCrossed {K S : Type 0} (sinks : Sink K) (sources : Source S) (sent arrived : Message Definition) : Type 0 where
  pub sends : HasSent sinks (spelling sent)
  pub source : S
  pub source_after : S
  pub came : ComesOut sent (sources.left source) (sources.left source_after) arrived

-- Such bytes didn't cross: a call of one of the ends failed, the reader ended before as many came,
-- or others came.
pub record WasLost {K S : Type 0} (sinks : Sink K) (sources : Source S) (size : ℕ) (is : List ℕ → Type 0) : Type 0 where
  pub sink : K
  pub sink_after : K
  pub source : S
  pub source_after : S
  pub lost : IsLost sinks sources size is sink sink_after source source_after

-- More bytes came than that.
pub record CameMore {S : Type 0} (sources : Source S) (size : ℕ) : Type 0 where
  pub source : S
  pub source_after : S
  pub bytes : List ℕ
  pub more : size < length bytes
  pub taken : Consumes (sources.left source) (sources.left source_after) bytes

-- ---- for the crate's own contracts

-- a read failed, or the reader had more
abbrev pub IsNotOver : ℕ → ℕ → Option (List ℕ) → Option (List ℕ) → Type 0
IsNotOver failures failures_after left left_after = Rises failures failures_after ⊎ ((bytes : List ℕ) × (0 < length bytes) × Consumes left left_after bytes)
