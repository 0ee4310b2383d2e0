-- Messages are offered to an outbox.
use Rattle.std.specs.Prelude.{◌≡◌, ◌⊎◌, ℕ, ◌+◌, ◌<◌, Bool, true, false, List, [], ◌∷◌, length, if◌then◌else◌, is_some, Option, Some, None}
use Rattle.wf_codec.specs.Encoding.{spelling}
use Rattle.wf_def.specs.Definition.{Definition}
use Rattle.wf_mail.specs.Outbox.{OutboxState, IsPut, IsSameOutbox}
use Rattle.wf_model.specs.Message.{Message}
use Rattle.wf_wire.specs.ToPeer.{put_into}

-- The message was dropped: there was no room for its encoding, or it needed an allocation, which
-- failed. Nothing else changed.
pub record IsDropped (before : OutboxState) (m : Message Definition) (after : OutboxState) : Type 0 where
  pub same : IsSameOutbox before after
  pub why : (before.limit < length before.waiting + length (spelling m)) ⊎ (before.spare < length (spelling m))

-- By whether it was kept: put in whole, or dropped. Where there is no outbox, nothing happens.
abbrev pub IsPutOr : Bool → Message Definition → Option OutboxState → Option OutboxState → Type 0
IsPutOr true m None after = after ≡ None
IsPutOr true m (Some before) None = ⊥
IsPutOr true m (Some before) (Some after) = IsPut before m after
IsPutOr false m None after = ⊥
IsPutOr false m (Some before) None = ⊥
IsPutOr false m (Some before) (Some after) = IsDropped before m after

-- So was each of these, in their order.
unfoldable pub AreOffered : List (Message Definition) → Option OutboxState → Option OutboxState → Type 0
AreOffered [] before after = after ≡ before
AreOffered (m ∷ messages) before after =
    (queued : Bool) × (middle : Option OutboxState) × IsPutOr queued m before middle × AreOffered messages middle after

-- So many of these were put in, and so many dropped: all of them, or none where there is no outbox.
pub record AreTallied (put dropped : ℕ) (messages : List (Message Definition)) (before after : Option OutboxState) : Type 0 where
  pub more : length (put_into after) ≡ length (put_into before) + put
  pub all : put + dropped ≡ (if is_some before then length messages else 0)
