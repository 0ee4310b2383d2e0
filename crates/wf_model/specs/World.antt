-- The farm: its nodes and all messages ever sent, the events, and whole runs.
use Rattle.std.specs.Prelude.{ℕ, Bool, List, [], ◌∷◌, ◌++◌, length, replicate, slice_get, slice_set, Option, Some, None, is_some, if◌then◌else◌, ◌≡◌}
use Rattle.wf_model.specs.Message.{Message}
use Rattle.wf_model.specs.DurableState.{DurableState, nothing_stored}
use Rattle.wf_model.specs.VolatileState.{VolatileState, at_start}
use Rattle.wf_model.specs.Table as table
use Rattle.wf_model.specs.Table.{Action, Input, StepRejection, Transition, transition, step_rejection, store}

-- a node: its stored state, and its volatile state, None while it is stopped
pub record Node (V : Type 0) : Type 0 where
  pub stored : DurableState V
  pub volatile : Option (VolatileState V)

-- Nodes 0, 1, 2 and so on, and messages 0, 1, 2 and so on. Nothing is ever removed from the list of
-- messages: a lost message is one that is never delivered.
pub record World (V : Type 0) : Type 0 where
  pub nodes : List (Node V)
  pub sent : List (Message V)

-- whether a crash within a step leaves the stored state of before it or after it
pub data Kept : Type 0 where
  Before After : Kept

-- What may happen to the node of that number: a step; a stop and a restart; a crash within a step.
-- A delivery names a sent message by its number, so none can be invented; a message may be
-- delivered late, repeatedly, in any order, or never.
pub data Event (V : Type 0) : Type 0 where
  Act : (node : ℕ) (action : Action V ℕ) → Event V
  Stop : (node : ℕ) → Event V
  Restart : (node : ℕ) → Event V
  Torn : (node : ℕ) (action : Action V ℕ) (kept : Kept) → Event V

-- the four steps as events
abbrev pub propose : {V : Type 0} → ℕ → V → Event V
propose i d = Act i (table.Propose d)

abbrev pub retry : {V : Type 0} → ℕ → Event V
retry i = Act i table.Retry

abbrev pub catch_up : {V : Type 0} → ℕ → Event V
catch_up i = Act i table.CatchUp

abbrev pub deliver : {V : Type 0} → ℕ → ℕ → Event V
deliver i k = Act i (table.Deliver k)

-- a step that has an effect: its node's stored state before it, and its transition
pub record Turn (V : Type 0) : Type 0 where
  pub stored : DurableState V
  pub transition : Transition V

-- the input of a message's delivery, None if the message isn't sent yet
unfoldable pub delivered : {V : Type 0} → Option (Message V) → Option (Input V)
delivered None = None
delivered (Some message) = Some (table.Deliver message)

unfoldable pub input_of : {V : Type 0} → List (Message V) → Action V ℕ → Option (Input V)
input_of sent (table.Propose d) = Some (table.Propose d)
input_of sent table.Retry = Some table.Retry
input_of sent table.CatchUp = Some table.CatchUp
input_of sent (table.Deliver k) = delivered (slice_get sent k)

-- the stored state that a crash within a step leaves
unfoldable pub stored_after : {V : Type 0} → Turn V → DurableState V
stored_after turn = store turn.stored turn.transition.entry

unfoldable pub kept_part : {V : Type 0} → Kept → Turn V → DurableState V
kept_part Before turn = turn.stored
kept_part After turn = stored_after turn

-- ---- rejected steps

-- the table's rejection of a step, if its node runs and its message is sent
unfoldable pub step_rejection_running : {V : Type 0} → DurableState V → Option (VolatileState V) → Input V → Option StepRejection
step_rejection_running stored None input = None
step_rejection_running stored (Some volatile) input = step_rejection stored volatile input

unfoldable pub step_rejection_of : {V : Type 0} → Option (Node V) → Option (Input V) → Option StepRejection
step_rejection_of None input = None
step_rejection_of (Some node) None = None
step_rejection_of (Some node) (Some input) = step_rejection_running node.stored node.volatile input

unfoldable pub rejected_at : {V : Type 0} → World V → ℕ → Action V ℕ → Option StepRejection
rejected_at w i action = step_rejection_of (slice_get w.nodes i) (input_of w.sent action)

-- the rejection of an event's step, also if the step crashes; None if it isn't rejected
unfoldable pub refused : {V : Type 0} → World V → Event V → Option StepRejection
refused w (Act i action) = rejected_at w i action
refused w (Stop i) = None
refused w (Restart i) = None
refused w (Torn i action kept) = rejected_at w i action

-- ---- effects on the world

-- the world in which node i is this one
unfoldable pub with_node : {V : Type 0} → World V → ℕ → DurableState V → Option (VolatileState V) → World V
with_node w i stored volatile = record w { nodes = slice_set w.nodes i (record { stored = stored; volatile = volatile }) }

-- A whole step: its record is stored, then its messages are sent.
unfoldable pub after_turn : {V : Type 0} → World V → ℕ → Option (Turn V) → World V
after_turn w i None = w
after_turn w i (Some turn) =
    record (with_node w i (stored_after turn) (Some turn.transition.volatile)) { sent = w.sent ++ turn.transition.messages }

-- A crash within a step loses the volatile state and all messages; its record is stored or not.
unfoldable pub after_torn : {V : Type 0} → World V → ℕ → Kept → Option (Turn V) → World V
after_torn w i kept None = w
after_torn w i kept (Some turn) = with_node w i (kept_part kept turn) None

-- A stop loses the volatile state. A stopped node can't stop.
unfoldable pub stop_running : {V : Type 0} → World V → ℕ → DurableState V → Option (VolatileState V) → World V
stop_running w i stored None = w
stop_running w i stored (Some volatile) = with_node w i stored None

unfoldable pub after_stop : {V : Type 0} → World V → ℕ → Option (Node V) → World V
after_stop w i None = w
after_stop w i (Some node) = stop_running w i node.stored node.volatile

-- A stopped node comes back with its stored state, no proposal and no leadership. A running node
-- can't be restarted.
unfoldable pub restart_stopped : {V : Type 0} → World V → ℕ → DurableState V → Option (VolatileState V) → World V
restart_stopped w i stored None = with_node w i stored (Some at_start)
restart_stopped w i stored (Some volatile) = w

unfoldable pub after_restart : {V : Type 0} → World V → ℕ → Option (Node V) → World V
after_restart w i None = w
after_restart w i (Some node) = restart_stopped w i node.stored node.volatile

module _ {V : Type 0} (same : V → V → Bool) where
  -- A step has an effect if its node runs, its message is sent, and it isn't rejected.
  unfoldable pub turn_running : ℕ → ℕ → DurableState V → Option (VolatileState V) → Input V → Option (Turn V)
  turn_running n i stored None input = None
  turn_running n i stored (Some volatile) input =
      if is_some (step_rejection stored volatile input) then None else Some (record { stored = stored; transition = transition same n i stored volatile input })

  unfoldable pub turn_of : ℕ → ℕ → Option (Node V) → Option (Input V) → Option (Turn V)
  turn_of n i None input = None
  turn_of n i (Some node) None = None
  turn_of n i (Some node) (Some input) = turn_running n i node.stored node.volatile input

  unfoldable pub turn : World V → ℕ → Action V ℕ → Option (Turn V)
  turn w i action = turn_of (length w.nodes) i (slice_get w.nodes i) (input_of w.sent action)

  unfoldable pub happens : World V → Event V → World V
  happens w (Act i action) = after_turn w i (turn w i action)
  happens w (Stop i) = after_stop w i (slice_get w.nodes i)
  happens w (Restart i) = after_restart w i (slice_get w.nodes i)
  happens w (Torn i action kept) = after_torn w i kept (turn w i action)

  -- ---- whole runs

  unfoldable pub steps : World V → List (Event V) → World V
  steps w [] = w
  steps w (event ∷ rest) = steps (happens w event) rest

-- n running nodes, all empty
unfoldable pub start : {V : Type 0} → ℕ → World V
start n = record { nodes = replicate n (record { stored = nothing_stored; volatile = Some at_start }); sent = [] }

unfoldable pub after : {V : Type 0} → (V → V → Bool) → ℕ → List (Event V) → World V
after same n events = steps same (start n) events

-- Running two lists of events in turn is running their concatenation.
abbrev pub StepsInTurn : Type 0 → Type 0
StepsInTurn V = (same : V → V → Bool) (w : World V) (events more : List (Event V)) → steps same w (events ++ more) ≡ steps same (steps same w events) more

-- A rejected event leaves the world unchanged, and so does a rejected event with a crash within its
-- step.
abbrev pub RejectedChangesNothing : Type 0 → Type 0
RejectedChangesNothing V = (same : V → V → Bool) (w : World V) (event : Event V) (why : StepRejection) → refused w event ≡ Some why → happens same w event ≡ w
