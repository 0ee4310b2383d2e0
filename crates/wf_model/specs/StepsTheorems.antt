-- Concatenated runs, and rejected events.
use Rattle.std.proofs.Common.{◌≡◌, ℕ, Bool, List, [], ◌∷◌, ◌++◌, length, slice_get, Option, Some, None, refl, ap}
use Rattle.std.proofs.lemmas.Option.{none-some}
use Rattle.wf_model.specs.DurableState.{DurableState}
use Rattle.wf_model.specs.VolatileState.{VolatileState}
use Rattle.wf_model.specs.Table.{Action, Input, StepRejection}
use Rattle.wf_model.specs.World.{Node, World, Event, Act, Stop, Restart, Torn, Kept, input_of, step_rejection_running, step_rejection_of, rejected_at, refused, after_turn, after_torn, turn_running, turn_of, turn, happens, steps, StepsInTurn, RejectedChangesNothing}

module _ {V : Type 0} (same : V → V → Bool) where
  in_turn : (w : World V) (events more : List (Event V)) → steps same w (events ++ more) ≡ steps same (steps same w events) more
  unfolding steps
  in_turn w [] more = refl
  in_turn w (event ∷ rest) more = in_turn (happens same w event) rest more

  -- ---- a rejected step has no effect

  not_run : (n i : ℕ) (stored : DurableState V) (volatile : Option (VolatileState V)) (input : Input V) (why : StepRejection) →
      step_rejection_running stored volatile input ≡ Some why → turn_running same n i stored volatile input ≡ None
  unfolding step_rejection_running turn_running
  not_run n i stored None input why e = refl
  not_run n i stored (Some volatile) input why e = rw e refl

  no_turn : (n i : ℕ) (node : Option (Node V)) (input : Option (Input V)) (why : StepRejection) → step_rejection_of node input ≡ Some why → turn_of same n i node input ≡ None
  unfolding step_rejection_of turn_of
  no_turn n i None input why e = refl
  no_turn n i (Some node) None why e = refl
  no_turn n i (Some node) (Some input) why e = not_run n i node.stored node.volatile input why e

  module _ (w : World V) (why : StepRejection) where
    turn-none : (i : ℕ) (action : Action V ℕ) → rejected_at w i action ≡ Some why → turn same w i action ≡ None
    unfolding rejected_at turn
    turn-none i action e = no_turn (length w.nodes) i (slice_get w.nodes i) (input_of w.sent action) why e

    step_left : (i : ℕ) (action : Action V ℕ) → rejected_at w i action ≡ Some why → after_turn w i (turn same w i action) ≡ w
    unfolding after_turn
    step_left i action e = ap (after_turn w i) (turn-none i action e)

    torn_left : (i : ℕ) (action : Action V ℕ) (kept : Kept) → rejected_at w i action ≡ Some why → after_torn w i kept (turn same w i action) ≡ w
    unfolding after_torn
    torn_left i action kept e = ap (after_torn w i kept) (turn-none i action e)

    left : (event : Event V) → refused w event ≡ Some why → happens same w event ≡ w
    unfolding refused happens
    left (Act i action) e = step_left i action e
    left (Stop i) e = absurd (none-some why e)
    left (Restart i) e = absurd (none-some why e)
    left (Torn i action kept) e = torn_left i action kept e

pub steps_in_turn : (V : Type 0) → StepsInTurn V
steps_in_turn V = λ same w events more. in_turn same w events more

pub rejected_changes_nothing : (V : Type 0) → RejectedChangesNothing V
rejected_changes_nothing V = λ same w event why e. left same w why event e
