-- The receiving end of a connection: what has arrived there.
use Rattle.std.specs.Prelude.{◌≡◌, ℕ, List, ◌++◌, length, map, Option}
use Rattle.std.specs.Io.KnownBytes.{Consumes}
use Rattle.wf_codec.specs.Message.{view}
use Rattle.wf_def.specs.Definition.{Definition}
use Rattle.wf_model.specs.Message.{Message}
use Rattle.wf_mail.specs.Inbox.{Open}
use Rattle.wf_mail.specs.Stream.{Reads}
use Rattle.wf_link.specs.declared.receiver.Arrival.{Arrival}

-- the messages that came out
abbrev pub came_out : Arrival → List (Message Definition)
came_out arrival = map view arrival.messages.items

-- These bytes have arrived: they are the encodings of the messages, followed by what the inbox
-- keeps, which begins with none.
pub record HasArrived (bytes : List ℕ) (arrival : Arrival) : Type 0 where
  pub rest : List ℕ
  pub keeps : arrival.inbox ≡ Open rest
  pub reads : Reads bytes (came_out arrival) rest

-- whatever had arrived, these bytes have arrived after it
unfoldable pub HasTaken : List ℕ → Arrival → Arrival → Type 0
HasTaken bytes before after = (earlier : List ℕ) → HasArrived earlier before → HasArrived (earlier ++ bytes) after

-- This many bytes were taken from the reader's, and have arrived.
pub record Arrives (count : ℕ) (left left_after : Option (List ℕ)) (before after : Arrival) : Type 0 where
  pub bytes : List ℕ
  pub size : length bytes ≡ count
  pub consumed : Consumes left left_after bytes
  pub taken : HasTaken bytes before after

-- This many bytes were taken from the reader's, and they are all that has arrived.
pub record HaveArrived (count : ℕ) (left left_after : Option (List ℕ)) (arrival : Arrival) : Type 0 where
  pub bytes : List ℕ
  pub size : length bytes ≡ count
  pub consumed : Consumes left left_after bytes
  pub received : HasArrived bytes arrival
