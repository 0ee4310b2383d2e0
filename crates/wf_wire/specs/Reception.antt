-- A piece that comes on a connection from a peer is taken in.
use Rattle.std.specs.Prelude.{◌≡◌, ℕ, ◌<◌, ◌≤◌, List, ◌++◌, length, map, Option, Some, None, Vec, is_some, true, false}
use Rattle.std.specs.declared.alloc.Global.{Global}
use Rattle.wf_codec.specs.Message.{view}
use Rattle.wf_codec.specs.declared.message.Message.{Message}
use Rattle.wf_codec.specs.declared.fault.DecodeFault.{DecodeFault}
use Rattle.wf_mail.specs.Receiver.{IsPieceReceived, ReceiverState, came, taken}
use Rattle.wf_mail.specs.Stream.{Breaks}
use Rattle.wf_peer.specs.Greeting.{IsGreeting, greeting_bytes, greeting_length}
use Rattle.wf_peer.specs.declared.greeting.Greeting.{Greeting}
use Rattle.wf_sockets.specs.declared.connection.Connection.{Ghosts as Connection}
use Rattle.wf_wire.specs.FromPeer.{takes_more}
use Rattle.wf_wire.specs.Post.{AreAmong}
use Rattle.wf_wire.specs.declared.from_peer.FromPeer.{FromPeer}
use Rattle.wf_wire.specs.declared.receipt.Received.{Received}
use Rattle.wf_wire.specs.declared.receipt.Received.TheVariants as got
use Rattle.wf_wire.specs.declared.receipt.ReceptionFault.{ReceptionFault}
use Rattle.wf_wire.specs.declared.receipt.ReceptionFault.TheVariants as faults

-- the messages that wait to be taken out
abbrev pub waiting_in : {C : Type 0} {connections : Connection C} → FromPeer C connections → List Message
waiting_in from = from.messages.items

-- So many bytes came, no more than there was room for, and stand behind those that were read.
pub record IsReadBehind (count most : ℕ) (all read all_after read_after : List ℕ) : Type 0 where
  pub more : List ℕ
  pub came : all_after ≡ all ++ more
  pub behind : read_after ≡ read ++ more
  pub within : length more ≤ most
  pub counted : count ≡ length more

-- Some bytes may have come, and are lost.
pub record IsLostOn (all read all_after read_after : List ℕ) : Type 0 where
  pub lost : List ℕ
  pub came : all_after ≡ all ++ lost
  pub same : read_after ≡ read

-- Bytes came, which the receiver took, and it returned these messages.
pub record AreTakenOn (messages : Vec Message Global) (all : List ℕ) (receiver : ReceiverState) (all_after : List ℕ) (receiver_after : ReceiverState) : Type 0 where
  pub more : List ℕ
  pub all_is : all_after ≡ all ++ more
  pub some : 0 < length more
  pub takes : taken receiver_after ≡ taken receiver ++ more
  pub received : IsPieceReceived receiver more (map view messages.items) receiver_after
  pub among : ∥ AreAmong (map view messages.items) (came receiver_after) ∥₁

-- so they did, or none came
abbrev pub AreReadOn : Option (Vec Message Global) → List ℕ → ReceiverState → List ℕ → ReceiverState → Type 0
AreReadOn None all receiver all_after receiver_after = (all_after ≡ all) × (receiver_after ≡ receiver)
AreReadOn (Some messages) all receiver all_after receiver_after = AreTakenOn messages all receiver all_after receiver_after

-- Bytes may have come, and some are lost: but for these the receiver still took all.
pub record AreLostOn (all : List ℕ) (receiver : ReceiverState) (all_after : List ℕ) (receiver_after : ReceiverState) : Type 0 where
  pub lost : List ℕ
  pub left : (front : List ℕ) → all ≡ front ++ taken receiver → all_after ≡ front ++ (taken receiver_after ++ lost)
  pub same : came receiver_after ≡ came receiver

-- the connection ended or failed, or an allocation failed
abbrev pub IsLoss : ReceptionFault → Type 0
IsLoss (faults.BadGreeting fault) = ⊥
IsLoss faults.BadMessage = ⊥
IsLoss fault = Unit {0}

-- Bytes came, and with these what the receiver took is whole messages and then an error.
pub record IsBrokenOn (all : List ℕ) (receiver : ReceiverState) (all_after : List ℕ) : Type 0 where
  pub more : List ℕ
  pub came : all_after ≡ all ++ more
  pub fault : DecodeFault
  pub breaks : Breaks (taken receiver ++ more) fault

-- why no more messages are read
abbrev pub IsLostBy : ReceptionFault → List ℕ → ReceiverState → List ℕ → Type 0
IsLostBy faults.BadMessage all receiver all_after = takes_more receiver ≡ true → IsBrokenOn all receiver all_after
IsLostBy fault all receiver all_after = IsLoss fault

-- No greeting is a beginning of these bytes, or all of them.
abbrev pub IsNoGreeting : List ℕ → Type 0
IsNoGreeting bytes = (g : Greeting) (rest : List ℕ) → IsGreeting g → bytes ≡ greeting_bytes g ++ rest → ⊥

-- These bytes are no beginning of a longer greeting.
abbrev pub IsNoPart : List ℕ → Type 0
IsNoPart bytes = (g : Greeting) (more : List ℕ) → IsGreeting g → 0 < length more → bytes ++ more ≡ greeting_bytes g → ⊥

-- They are fewer than the greeting has that begins so.
abbrev pub LacksBytes : List ℕ → Type 0
LacksBytes bytes = length bytes < greeting_length bytes

-- ---- what a call of a connection from a peer does

module _ {C : Type 0} {connections : Connection C} where
  -- Nothing came, and all that came before is as it was.
  pub record HasStillCome (before after : FromPeer C connections) : Type 0 where
    pub came : connections.came after.connection ≡ connections.came before.connection
    pub greeting : after.greeting.items ≡ before.greeting.items
    pub said : after.said ≡ before.said
    pub receiver : after.receiver ≡ before.receiver
    pub waiting : waiting_in after ≡ waiting_in before
    pub whole : after.is_whole ≡ before.is_whole

  -- At least one byte came, and stands behind those of the greeting that came before.
  pub record IsMoreGreeted (before after : FromPeer C connections) : Type 0 where
    pub more : List ℕ
    pub some : 0 < length more
    pub came : connections.came after.connection ≡ connections.came before.connection ++ more
    pub greeting : after.greeting.items ≡ before.greeting.items ++ more
    pub receiver : after.receiver ≡ before.receiver
    pub waiting : waiting_in after ≡ waiting_in before

  -- At least one byte came, which the receiver took. The messages that it returned, so many, are
  -- those that wait now.
  pub record AreReceivedOn (count : ℕ) (before after : FromPeer C connections) : Type 0 where
    pub more : List ℕ
    pub some : 0 < length more
    pub came : connections.came after.connection ≡ connections.came before.connection ++ more
    pub received : IsPieceReceived before.receiver more (map view (waiting_in after)) after.receiver
    pub counted : count ≡ length (waiting_in after)
    pub greeting : after.greeting.items ≡ before.greeting.items
    pub said : after.said ≡ before.said

  -- By what is returned: nothing came, a part of a greeting, the rest of one, or messages.
  abbrev pub IsReceivedAs : Received → FromPeer C connections → FromPeer C connections → Type 0
  IsReceivedAs got.Nothing before after = HasStillCome before after
  IsReceivedAs got.Part before after = IsMoreGreeted before after × (after.said ≡ None) × IsNoGreeting after.greeting.items × LacksBytes after.greeting.items
  IsReceivedAs got.Greeting before after = IsMoreGreeted before after × (is_some after.said ≡ true)
  IsReceivedAs (got.Messages count) before after = AreReceivedOn count before after

  -- Why nothing more comes: what came begins as no greeting does. Or it isn't messages, or the
  -- connection ended, or an allocation failed: then each later call fails.
  abbrev pub IsStoppedBy : ReceptionFault → FromPeer C connections → FromPeer C connections → Type 0
  IsStoppedBy (faults.BadGreeting fault) before after = IsMoreGreeted before after × IsNoGreeting after.greeting.items × IsNoPart after.greeting.items
  IsStoppedBy faults.BadMessage before after = IsBrokenOn (connections.came before.connection) before.receiver (connections.came after.connection) × (after.is_whole ≡ false)
  IsStoppedBy fault before after = after.is_whole ≡ false
