-- A stream of messages: the whole messages that it begins with, and what follows them.
use Rattle.std.specs.Prelude.{◌≡◌, ℕ, ◌+◌, List, [], ◌∷◌, ◌++◌}
use Rattle.wf_def.specs.Definition.{Definition}
use Rattle.wf_model.specs.Message.{Message}
use Rattle.wf_codec.specs.KindTable.{most_body_bytes}
use Rattle.wf_codec.specs.Encoding.{header_length, Spells}
use Rattle.wf_codec.specs.Fault.{HasFault}
use Rattle.wf_codec.specs.Theorem.{BeginsWithNone, NeverBegins, IsLastingFault, IsUnfinished}
use Rattle.wf_codec.specs.declared.fault.DecodeFault.{DecodeFault}

-- the length of the longest message, in bytes
abbrev pub most_message_bytes : ℕ
most_message_bytes = header_length + most_body_bytes

-- the stream is the encodings of the messages, followed by the rest
abbrev pub Splits : List ℕ → List (Message Definition) → List ℕ → Type 0
Splits stream [] rest = stream ≡ rest
Splits stream (m ∷ messages) rest = (spelled : List ℕ) × (after : List ℕ) × Spells m spelled × (stream ≡ spelled ++ after) × Splits after messages rest

-- empty or part of a message, without an error so far
pub record IsUnfinishedPart (bytes : List ℕ) : Type 0 where
  pub longest : BeginsWithNone bytes
  pub unfinished : IsUnfinished bytes

-- these are all the whole messages that the stream begins with, and the rest is empty or part of a
-- message
pub record Reads (stream : List ℕ) (messages : List (Message Definition)) (rest : List ℕ) : Type 0 where
  pub splits : Splits stream messages rest
  pub part : IsUnfinishedPart rest

-- the bytes have this error of the decoder: they never begin with a message, whatever follows
pub record IsWrong (bytes : List ℕ) (fault : DecodeFault) : Type 0 where
  pub has_fault : HasFault bytes fault
  pub rejection : IsLastingFault fault
  pub never : NeverBegins bytes

-- the stream is whole messages followed by bytes that have this error
pub record Breaks (stream : List ℕ) (fault : DecodeFault) : Type 0 where
  pub messages : List (Message Definition)
  pub rest : List ℕ
  pub splits : Splits stream messages rest
  pub wrong : IsWrong rest fault
