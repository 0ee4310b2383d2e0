-- Nodes that are closed and opened again from what is on their tapes: as the model's nodes they
-- stop and restart.
use Rattle.std.specs.Prelude.{◌≡◌, ℕ, Bool, true, false, List, length, slice_get, Some}
use Rattle.wf_delivery.specs.Common.{at_start, StandsFor, Node, stored_of, volatile_of}
use Rattle.wf_delivery.specs.Delivery.{AnyPart, StandFor}
use Rattle.wf_delivery.specs.Reachability.{AreReachable}

-- What is stored again: what the node had stored; or, if its tape had failed, what these bytes
-- stand for, which a crash left of it.
abbrev pub HasStoredAgain : {T U : Type 0} → Bool → List ℕ → Node T → Node U → Type 0
HasStoredAgain false left before after = stored_of after ≡ stored_of before
HasStoredAgain true left before after = StandsFor (stored_of after) left

-- The node was opened from what the other left: it runs, and has no proposal and no leadership.
pub record IsReopened {T U : Type 0} (left : List ℕ) (before : Node T) (after : Node U) : Type 0 where
  pub runs : after.halted ≡ false
  pub idle : volatile_of after ≡ at_start
  pub stored : HasStoredAgain before.halted left before after

-- Each node was opened from what the one at its index left, on any kind of tape.
pub record AreReopened {T U : Type 0} (left : ℕ → List ℕ) (nodes : List (Node T)) (again : List (Node U)) : Type 0 where
  pub as_many : length again ≡ length nodes
  pub each : (i : ℕ) (next : Node U) → slice_get again i ≡ Some next → (node : Node T) × (slice_get nodes i ≡ Some node) × IsReopened (left i) node next

-- If the start leads to nodes, with these bytes left of the tapes that failed, it leads to nodes
-- opened from what they left.
abbrev pub ReopenedAreReachable : Type 0 → Type 0 → Type 0
ReopenedAreReachable T U = (left : ℕ → List ℕ) (nodes : List (Node T)) (again : List (Node U)) → AreReachable (StandFor left) nodes → AreReopened left nodes again → AreReachable AnyPart again

-- That holds whatever bytes a crash leaves of the new nodes' tapes: none of these has failed.
abbrev pub ReopenedOnTape : Type 0 → Type 0 → Type 0
ReopenedOnTape T U = (left now : ℕ → List ℕ) (nodes : List (Node T)) (again : List (Node U)) → AreReachable (StandFor left) nodes → AreReopened left nodes again → AreReachable (StandFor now) again
