-- What is posted to the connections to peers.
use Rattle.std.specs.Prelude.{◌≡◌, ℕ, Bool, true, false, List, [], length, slice_get, is_some, Option, Some, None}
use Rattle.wf_def.specs.Definition.{Definition}
use Rattle.wf_peer_connections.specs.declared.dial.Dial.{Dial}
use Rattle.wf_model.specs.Message.{Message}
use Rattle.wf_sockets.specs.declared.connection.Connection.{Ghosts as Connection}
use Rattle.wf_wire.specs.Offer.{AreOffered}
use Rattle.wf_wire.specs.Target.{includes}
use Rattle.wf_wire.specs.ToPeer.{waiting_for}
use Rattle.wf_wire.specs.declared.target.Target.{Target}
use Rattle.wf_wire.specs.declared.to_peer.ToPeer.{ToPeer}

-- whether messages can be sent: there is a connection, and an outbox on it
abbrev pub can_send : {C : Type 0} {connections : Connection C} → Option (ToPeer C connections) → Bool
can_send None = false
can_send (Some to) = is_some to.outbox

-- the bytes of messages that wait, if there is one
abbrev pub waiting_on : {C : Type 0} {connections : Connection C} → Option (ToPeer C connections) → List ℕ
waiting_on None = []
waiting_on (Some to) = waiting_for to.outbox

-- The messages were offered to the outbox of the connection, if there is one.
abbrev pub AreOfferedOn : {C : Type 0} {connections : Connection C} → List (Message Definition) → Option (ToPeer C connections) → Option (ToPeer C connections) → Type 0
AreOfferedOn messages None after = after ≡ None
AreOfferedOn messages (Some before) None = ⊥
AreOfferedOn messages (Some before) (Some after) = AreOffered messages before.outbox after.outbox

-- By whether they are for that peer: else nothing changed.
abbrev pub AreOfferedIf : {C : Type 0} {connections : Connection C} → Bool → List (Message Definition) → Dial C connections → Dial C connections → Type 0
AreOfferedIf true messages before after = AreOfferedOn messages before.to after.to
AreOfferedIf false messages before after = after ≡ before

-- The messages were offered on the connection to each node that they are for, and no other
-- connection changed.
pub record ArePosted {C : Type 0} {connections : Connection C} (target : Target) (messages : List (Message Definition)) (before after : List (Dial C connections)) : Type 0 where
  pub as_many : length after ≡ length before
  pub each : (i : ℕ) (dial dial_after : Dial C connections) → slice_get before i ≡ Some dial → slice_get after i ≡ Some dial_after → AreOfferedIf (includes target i) messages dial dial_after
