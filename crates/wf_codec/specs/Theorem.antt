-- The theorems about message bytes: each message has one encoding, none is a prefix of another, and
-- what the front of bytes is.
use Rattle.std.specs.Prelude.{◌≡◌, ℕ, ◌+◌, ◌≤◌, List, ◌++◌, length, take, true, Some, Result, Err, IfOk, IsSomeAnd, MatchResult}
use Rattle.wf_frame.specs.Layout.{Layout, fits}
use Rattle.wf_frame.specs.Row.{layout_of, read_row}
use Rattle.wf_frame.specs.Frame.{FrameFound}
use Rattle.wf_frame.specs.Frame as frames
use Rattle.wf_frame.specs.declared.fault.FrameFault.{FrameFault}
use Rattle.wf_model.specs.Message.{Message}
use Rattle.wf_def.specs.Definition.{Definition}
use Rattle.wf_codec.specs.declared.fault.DecodeFault.{DecodeFault}
use Rattle.wf_codec.specs.declared.fault.DecodeFault.TheVariants.{Short, Memory}
use Rattle.wf_codec.specs.KindTable.{kinds}
use Rattle.wf_codec.specs.Encoding.{header_length, format, Spells}
use Rattle.wf_codec.specs.Message.{HasDefinition}
use Rattle.wf_codec.specs.Stages.{decode_fault, ReadsBodyAs}

-- a message has exactly one encoding
abbrev pub OneSpelling : Type 0
OneSpelling = (m : Message Definition) (a b : List ℕ) → Spells m a → Spells m b → a ≡ b

-- No encoding is a prefix of another's: if two encodings, each followed by other bytes, are equal,
-- so are the messages, the encodings and what follows.
abbrev pub NoneBeginsAnother : Type 0
NoneBeginsAnother = (m n : Message Definition) (a b after_a after_b : List ℕ) → Spells m a → Spells n b →
    a ++ after_a ≡ b ++ after_b → (m ≡ n) × (a ≡ b) × (after_a ≡ after_b)

-- an encoding has at least one byte
abbrev pub NoneIsEmpty : Type 0
NoneIsEmpty = (m : Message Definition) (bytes : List ℕ) → Spells m bytes → 1 ≤ length bytes

-- no kind can have a longer body, and the second, a promise, can have one of that length
pub record IsLongestBody (most : ℕ) : Type 0 where
  pub within : (byte : ℕ) (layout : Layout) (n : ℕ) → layout_of kinds byte ≡ Some layout → fits layout n ≡ true → n ≤ most
  pub reached : IsSomeAnd (layout_of kinds 2) (λ layout. fits layout most ≡ true)

-- the first k bytes encode the message
pub record BeginsWith (bytes : List ℕ) (m : Message Definition) (k : ℕ) : Type 0 where
  pub within : k ≤ length bytes
  pub spells : Spells m (take k bytes)

-- no prefix of the bytes encodes a message
abbrev pub BeginsWithNone : List ℕ → Type 0
BeginsWithNone bytes = (m : Message Definition) (spelled after : List ℕ) → Spells m spelled → bytes ≡ spelled ++ after → ⊥

-- no continuation of the bytes begins with a message
abbrev pub NeverBegins : List ℕ → Type 0
NeverBegins bytes = (more : List ℕ) → BeginsWithNone (bytes ++ more)

-- errors that remain whatever bytes follow
abbrev pub IsLastingFault : DecodeFault → Type 0
IsLastingFault Short = ⊥
IsLastingFault Memory = ⊥
IsLastingFault fault = Unit {0}

-- Part of a message, without an error in its version, its kind and its length as far as they are
-- there; the length is checked once its four bytes are there.
abbrev pub IsUnfinished : List ℕ → Type 0
IsUnfinished bytes = frames.IsUnfinishedFrame format bytes

-- the message and its length are returned; for a message with a definition, allocation failure may
-- be returned instead
abbrev pub IsReadAs : {X : Type 0} → (X → Message Definition) → Result (X × ℕ) DecodeFault → Message Definition → ℕ → Type 0
IsReadAs view result m k = MatchResult result (λ x. (view x.0 ≡ m) × (x.1 ≡ k)) (λ e. (e ≡ Memory) × HasDefinition m)

-- The result of the decoder's parts: the frame's error, or else the message of the body.
abbrev pub IsValidated : {X : Type 0} → (X → Message Definition) → Result (X × ℕ) DecodeFault → Result FrameFound FrameFault → Type 0
IsValidated view result split = MatchResult split
    (λ frame. ReadsBodyAs (λ x. view x.0) result (read_row kinds frame.1 frame.2) × IfOk result (λ x. x.1 ≡ header_length + length frame.2))
    (λ fault. result ≡ Err (decode_fault fault))
