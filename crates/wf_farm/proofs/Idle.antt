-- Whether a node takes a step: it exists and runs, the step's message was sent, and the table
-- doesn't reject it. Otherwise nothing happens.
use Rattle.std.proofs.Common.{◌≡◌, ◌∙◌, ℕ, Bool, true, false, is_some, List, length, map, slice_get, Option, Some, None, option_map, refl, sym, ap, subst}
use Rattle.wf_farm.proofs.Common.{false≢true, none-some, same_Some, slice_get-map, Message, Definition, definition_eq, Action, Input, StepRejection, step_rejection, after_torn, after_turn, delivered, happens, input_of, step_rejection_of, refused, turn_of, Kept, Node, stored_of, volatile_of, proposal_step_rejection, step_rejection_at, retry_step_rejection, NodeFault, TapeValue, Running, Stopped, Rejection, reported, IsHappened, MemoryHost, IsHostOf, rejection_in, IsIdle, ReportsWhyNot, acted}
use Rattle.wf_codec.specs.Message as message
use Rattle.wf_model.specs.Kept.{view as view_kept}
use Rattle.wf_model.specs.Message as model
use Rattle.wf_model.specs.Table as table
use Rattle.wf_node.specs.Fault.{IsWhyNot}
use Rattle.wf_farm.specs.Cluster.{Refines}
use Rattle.wf_farm.specs.FallibleStep.{TakesItsStep}
use Rattle.wf_farm.proofs.Events.{as_many, node_at, none_at}
use Rattle.wf_delivery.proofs.Turns.{rejected_absent, rejected_idle, rejected_is, rejected_unsent, running_step_rejection, turn_absent, turn_idle, turn_is, turn_rejected, turn_unsent}

-- ---- why a node would reject a step

module _ {T : Type 0} (node : Node T) (why : Option NodeFault) where
  -- the table doesn't depend on the definition that is proposed
  pub reports_proposal : (d : Definition) → IsWhyNot (proposal_step_rejection node) why → ReportsWhyNot node (table.Propose d) why
  unfolding ReportsWhyNot input_of step_rejection
  reports_proposal d is = λ sent input given. subst (λ y. IsWhyNot (step_rejection_at node y) why) (same_Some (table.Propose d) input given) is

  pub reports_retry : IsWhyNot (retry_step_rejection node) why → ReportsWhyNot node table.Retry why
  unfolding ReportsWhyNot input_of step_rejection
  reports_retry is = λ sent input given. subst (λ y. IsWhyNot (step_rejection_at node y) why) (same_Some table.Retry input given) is

-- A catch-up and a delivery are never rejected.
pub reports_question : {T : Type 0} (node : Node T) → ReportsWhyNot node table.CatchUp None
unfolding ReportsWhyNot input_of step_rejection
reports_question node = λ sent input given. subst (λ y. IsWhyNot (step_rejection_at node y) None) (same_Some table.CatchUp input given) refl

free_delivery : {T : Type 0} (node : Node T) (m : Option (model.Message Definition)) (input : Input Definition) → delivered m ≡ Some input → IsWhyNot (step_rejection_at node input) None
unfolding delivered step_rejection
free_delivery node None input given = absurd (none-some input given)
free_delivery node (Some m) input given = subst (λ y. IsWhyNot (step_rejection_at node y) None) (same_Some (table.Deliver m) input given) refl

pub reports_delivery : {T : Type 0} (node : Node T) (k : ℕ) → ReportsWhyNot node (table.Deliver k) None
unfolding ReportsWhyNot input_of
reports_delivery node k = λ sent input given. free_delivery node (slice_get sent k) input given

-- ---- the input

-- whether an action has an input: its message, if it is a delivery
pub none_given : (given : Option (Input Definition)) (is : Bool) → is ≡ is_some given → is ≡ false → given ≡ None
none_given None is e f = refl
none_given (Some input) is e f = absurd (false≢true (sym f ∙ e))

pub one_given : (given : Option (Input Definition)) (is : Bool) → is ≡ is_some given → is ≡ true → (input : Input Definition) × (given ≡ Some input)
one_given None is e t = absurd (false≢true (sym e ∙ t))
one_given (Some input) is e t = (input, refl)

-- A delivery whose message wasn't sent has none.
pub none_sent : (sent : List Message) (k : ℕ) → slice_get sent k ≡ None → is_some (input_of (map message.view sent) (table.Deliver k)) ≡ true → ⊥
unfolding input_of delivered
none_sent sent k none given = false≢true (sym (ap (λ m. is_some (delivered m)) (slice_get-map message.view sent k ∙ ap (λ m. option_map message.view m) none)) ∙ given)

-- ---- a step that isn't taken

rejected_some : (why : Option StepRejection) → (why ≡ None → ⊥) → (is : StepRejection) × (why ≡ Some is)
rejected_some None not = absurd (not refl)
rejected_some (Some is) not = (is, refl)

module _ (hosts : List MemoryHost) (sent : List Message) (i : ℕ) (action : Action Definition ℕ) where
  -- There is no node.
  pub absent_idle : slice_get hosts i ≡ None → IsIdle i action None hosts sent
  unfolding IsIdle
  absent_idle none = λ w refines.
      let gone = none_at hosts w.nodes i refines.nodes none in
      (turn_absent definition_eq w i action gone, sym (ap reported (rejected_absent w i action gone)))

  -- The node is stopped.
  pub stopped_idle : (tape : TapeValue) → slice_get hosts i ≡ Some (Stopped tape) → IsIdle i action None hosts sent
  unfolding IsIdle
  stopped_idle tape at = λ w refines.
      let found = node_at hosts w.nodes i (Stopped tape) refines.nodes at in
      (turn_idle definition_eq w i found.0 action found.1 found.2.0, sym (ap reported (rejected_idle w i found.0 action found.1 found.2.0)))

  -- The message wasn't sent.
  pub unsent_idle : input_of (map message.view sent) action ≡ None → IsIdle i action None hosts sent
  unfolding IsIdle
  unsent_idle none = λ w refines.
      let not = ap (λ ms. input_of ms action) refines.messages ∙ none in
      (turn_unsent definition_eq w i action not, sym (ap reported (rejected_unsent w i action not)))

  module _ (node : Node TapeValue) (input : Input Definition) (at : slice_get hosts i ≡ Some (Running node)) (given : input_of (map message.view sent) action ≡ Some input) where
    -- The table rejects it.
    pub denied_idle : (f : NodeFault) → ReportsWhyNot node action (Some f) → IsIdle i action (rejection_in f) hosts sent
    unfolding IsIdle ReportsWhyNot
    denied_idle f why = λ w refines.
        let found = node_at hosts w.nodes i (Running node) refines.nodes at in
        let here = ap (λ ms. input_of ms action) refines.messages ∙ given in
        let is = why (map message.view sent) input given in
        let because = rejected_some (step_rejection_at node input) is.1 in (
          turn_is definition_eq w (length hosts) i found.0 action input (as_many hosts w.nodes refines.nodes) found.1 here
              ∙ ap (λ x. turn_of definition_eq (length hosts) i (Some x) (Some input)) found.2
              ∙ turn_rejected definition_eq (length hosts) i (stored_of node) (volatile_of node) input because.0 because.1,
          ap reported (is.0 ∙ sym (rejected_is w i found.0 action input found.1 here ∙ ap (λ x. step_rejection_of (Some x) (Some input)) found.2 ∙ running_step_rejection (stored_of node) (volatile_of node) input)),
        )

    pub is_taken : IsHostOf (length hosts) i (Running node) → ReportsWhyNot node action None → TakesItsStep i action hosts sent
    unfolding ReportsWhyNot
    is_taken member why = record { input = input; given = given; there = record { node = node; at = at; member = member; goes = why (map message.view sent) input given } }

  -- Then nothing happens, and the rejection is reported.
  pub idle_happens : (why : Option Rejection) (crash : Option Kept) → IsIdle i action why hosts sent → IsHappened (acted crash i action) (record { why = why; torn = None }) hosts sent hosts sent
  unfolding IsIdle happens refused after_turn after_torn
  idle_happens why None idle = record { reaches = λ w refines. subst (Refines hosts sent) (sym (ap (after_turn w i) (idle w refines).0)) refines; why = λ w refines. (idle w refines).1 }
  idle_happens why (Some kept) idle = record { reaches = λ w refines. subst (Refines hosts sent) (sym (ap (after_torn w i (view_kept kept)) (idle w refines).0)) refines; why = λ w refines. (idle w refines).1 }
