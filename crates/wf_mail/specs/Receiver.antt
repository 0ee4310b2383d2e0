-- The model of a receiver, and what a call of it returns and leaves.
use Rattle.std.specs.Prelude.{◌≡◌, ◌≢◌, ℕ, Bool, true, false, List, [], ◌∷◌, ◌++◌, map, Vec}
use Rattle.std.specs.declared.alloc.Global.{Global}
use Rattle.wf_codec.specs.Message.{view}
use Rattle.wf_codec.specs.declared.message.Message as code
use Rattle.wf_def.specs.Definition.{Definition}
use Rattle.wf_model.specs.Message.{Message}
use Rattle.wf_mail.specs.Inbox as inbox
use Rattle.wf_mail.specs.Inbox.{InboxState}
use Rattle.wf_mail.specs.Stream.{IsUnfinishedPart, Reads, Breaks}
use Rattle.wf_codec.specs.declared.fault.DecodeFault.{DecodeFault}
use Rattle.wf_codec.specs.declared.fault.DecodeFault.TheVariants.{Memory}
use Rattle.wf_mail.specs.Mail.{spelled, AreMessages}

-- whether an allocation failed
abbrev pub is_memory : DecodeFault → Bool
is_memory Memory = true
is_memory fault = false

-- the messages that came, and the bytes after the last of them; or the messages that came before an
-- error, and that error
pub data ReceiverState : Type 0 where
  Open : (came : List (Message Definition)) (rest : List ℕ) → ReceiverState
  Closed : (came : List (Message Definition)) (fault : DecodeFault) → ReceiverState

-- the messages of a log
abbrev pub logged : List (Vec code.Message Global × ℕ) → List (Message Definition)
logged [] = []
logged (entry ∷ log) = map view entry.0.items ++ logged log

-- the state that the fields stand for
abbrev pub with_inbox : List (Message Definition) → InboxState → ReceiverState
with_inbox came (inbox.Open rest) = Open came rest
with_inbox came (inbox.Failed fault) = Closed came fault

abbrev pub state_of : Bool → List (Message Definition) → InboxState → ReceiverState
state_of true came state = Closed came Memory
state_of false came state = with_inbox came state

-- all messages that came
abbrev pub came : ReceiverState → List (Message Definition)
came (Open messages rest) = messages
came (Closed messages fault) = messages

-- the bytes that it has taken: of one that is closed, those of the messages that came
abbrev pub taken : ReceiverState → List ℕ
taken (Open messages rest) = spelled messages ++ rest
taken (Closed messages fault) = spelled messages

-- it has had no error
abbrev pub IsOpen : ReceiverState → Type 0
IsOpen (Open messages rest) = Unit {0}
IsOpen (Closed messages fault) = ⊥

-- These messages came out, in order; with the rest they are the bytes of the rest before and of the
-- piece.
abbrev pub IsPieceReceived : ReceiverState → List ℕ → List (Message Definition) → ReceiverState → Type 0
IsPieceReceived (Open before rest) piece messages (Open after rest_after) = (after ≡ before ++ messages) × Reads (rest ++ piece) messages rest_after
IsPieceReceived before piece messages after = ⊥

-- The receiver closed with the error, or was closed with it. Unless an allocation failed, the bytes
-- taken and the piece are whole messages and then bytes with this error.
abbrev pub IsClosed : ReceiverState → List ℕ → DecodeFault → ReceiverState → Type 0
IsClosed (Open before rest) piece fault after = (after ≡ Closed before fault) × (fault ≢ Memory → Breaks ((spelled before ++ rest) ++ piece) fault)
IsClosed (Closed before earlier) piece fault after = (fault ≡ earlier) × (after ≡ Closed before earlier)

-- What came has encodings, and an open inbox keeps nothing or part of a message.
abbrev pub KeepsPartIn : InboxState → Type 0
KeepsPartIn (inbox.Open rest) = IsUnfinishedPart rest
KeepsPartIn (inbox.Failed fault) = Unit {0}

pub record IsReceiver (came : List (Message Definition)) (state : InboxState) : Type 0 where
  pub messages : AreMessages came
  pub part : KeepsPartIn state
