-- The model of an outbox, and what its calls do.
use Rattle.std.specs.Prelude.{◌≡◌, ℕ, ◌+◌, ◌-◌, ◌≤◌, List, [], ◌∷◌, ◌++◌, length, map, take, drop}
use Rattle.wf_codec.specs.Message.{view}
use Rattle.wf_codec.specs.Encoding.{spelling}
use Rattle.wf_codec.specs.declared.message.Message as code
use Rattle.wf_def.specs.Definition.{Definition}
use Rattle.wf_model.specs.Message.{Message}
use Rattle.wf_mail.specs.Mail.{spelled, AreMessages}

-- The messages that were put in; of their encodings the bytes that were written out, and those that
-- wait; the most bytes that may wait; and how many more bytes it takes without an allocation.
pub record OutboxState : Type 0 where
  pub put : List (Message Definition)
  pub written : List ℕ
  pub waiting : List ℕ
  pub limit : ℕ
  pub spare : ℕ

-- the messages of a log
abbrev pub logged : List (code.Message × ℕ) → List (Message Definition)
logged log = map (λ entry. view entry.0) log

-- the bytes that wait: those of the first buffer that aren't written out yet, and those behind it
abbrev pub waiting_in : List ℕ → ℕ → List ℕ → List ℕ
waiting_in front done queue = drop done front ++ queue

-- the bytes before these at the end of all
abbrev pub before_end : List ℕ → List ℕ → List ℕ
before_end all waiting = take (length all - length waiting) all

-- the state that the fields stand for
abbrev pub state_of : List (code.Message × ℕ) → List ℕ → ℕ → List ℕ → ℕ → ℕ → OutboxState
state_of log front done queue limit spare = record {
  put = logged log;
  written = before_end (spelled (logged log)) (waiting_in front done queue);
  waiting = waiting_in front done queue;
  limit = limit;
  spare = spare;
}

-- What waits is the end of the encodings of what was put in, and within the limit. Nothing stands
-- behind a first buffer that is written out whole.
pub record IsOutbox (put : List (Message Definition)) (front : List ℕ) (done : ℕ) (queue : List ℕ) (limit : ℕ) : Type 0 where
  pub messages : AreMessages put
  pub ends : (written : List ℕ) × (written ++ waiting_in front done queue ≡ spelled put)
  pub within : done ≤ length front
  pub in_turn : done ≡ length front → queue ≡ []
  pub bounded : length (waiting_in front done queue) ≤ limit

-- The message was put in: it is the last one, its encoding waits behind all others, and there was
-- room for it.
pub record IsPut (before : OutboxState) (m : Message Definition) (after : OutboxState) : Type 0 where
  pub put : after.put ≡ before.put ++ m ∷ []
  pub written : after.written ≡ before.written
  pub waiting : after.waiting ≡ before.waiting ++ spelling m
  pub limit : after.limit ≡ before.limit
  pub room : length before.waiting + length (spelling m) ≤ before.limit

-- As many messages were put in and bytes written out, the very same; only the room without an
-- allocation may differ.
pub record IsSameOutbox (before after : OutboxState) : Type 0 where
  pub put : after.put ≡ before.put
  pub written : after.written ≡ before.written
  pub waiting : after.waiting ≡ before.waiting
  pub limit : after.limit ≡ before.limit

-- So many of the bytes that waited were written out.
pub record IsAdvanced (count : ℕ) (before after : OutboxState) : Type 0 where
  pub put : after.put ≡ before.put
  pub written : after.written ≡ before.written ++ take count before.waiting
  pub waiting : after.waiting ≡ drop count before.waiting
  pub limit : after.limit ≡ before.limit
