-- The model of an inbox, and what a call of it returns and leaves.
use Rattle.std.specs.Prelude.{◌≡◌, ℕ, List, [], ◌++◌, length, Option, Some, None}
use Rattle.wf_def.specs.Definition.{Definition}
use Rattle.wf_model.specs.Message.{Message}
use Rattle.wf_codec.specs.Theorem.{IsLastingFault}
use Rattle.wf_codec.specs.declared.fault.DecodeFault.{DecodeFault}
use Rattle.wf_mail.specs.Stream.{IsUnfinishedPart, Reads, Breaks}

-- the bytes after the last whole message, or the error that stands in the stream
pub data InboxState : Type 0 where
  Open : (rest : List ℕ) → InboxState
  Failed : (fault : DecodeFault) → InboxState

-- the state that the fields stand for
abbrev pub state_of : Option DecodeFault → List ℕ → InboxState
state_of None rest = Open rest
state_of (Some fault) rest = Failed fault

-- An open inbox keeps nothing or part of a message. A failed one keeps no bytes, and an error of
-- the stream.
abbrev pub IsInbox : Option DecodeFault → List ℕ → Type 0
IsInbox None rest = IsUnfinishedPart rest
IsInbox (Some fault) rest = IsLastingFault fault × (rest ≡ [])

-- the number of bytes that it keeps
abbrev pub pending_bytes : InboxState → ℕ
pending_bytes (Open rest) = length rest
pending_bytes (Failed fault) = 0

-- The rest before, followed by the piece, is these messages followed by the rest after, which
-- begins with none.
abbrev pub IsFed : InboxState → List ℕ → List (Message Definition) → InboxState → Type 0
IsFed (Open rest) piece messages (Open after) = Reads (rest ++ piece) messages after
IsFed before piece messages after = ⊥

-- The rest before, followed by the piece, is whole messages followed by bytes with this error, or
-- it is the error of an earlier call; it is kept.
abbrev pub IsBroken : InboxState → List ℕ → DecodeFault → InboxState → Type 0
IsBroken (Open rest) piece fault after = Breaks (rest ++ piece) fault × (after ≡ Failed fault)
IsBroken (Failed earlier) piece fault after = (fault ≡ earlier) × (after ≡ Failed earlier)
