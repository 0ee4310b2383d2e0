-- Turns of the farm's model: the effect of an event on the world, stated for its node alone.
use Rattle.std.proofs.Common.{◌≡◌, ℕ, Bool, List, length, slice_get, slice_set, Option, Some, None, refl, sym, ap, ◌∙◌}
use Rattle.wf_delivery.proofs.Common.{DurableState, VolatileState, Action, Input, StepRejection, step_rejection, transition, World, input_of, step_rejection_running, step_rejection_of, rejected_at, with_node, stop_running, after_stop, restart_stopped, after_restart, turn_running, turn_of, turn, set_same, node_stopped, volatile_restarted, node_restarted}
use Rattle.wf_model.specs.Message.{Message}
use Rattle.wf_model.specs.World.{Node}

abbrev pub world_of : {V : Type 0} → List (Node V) → List (Message V) → World V
world_of nodes sent = record { nodes = nodes; sent = sent }

world_eq : {V : Type 0} (nodes others : List (Node V)) (sent outputs : List (Message V)) → nodes ≡ others → sent ≡ outputs → world_of nodes sent ≡ world_of others outputs
world_eq nodes others sent outputs e h = ap (λ ns. world_of ns sent) e ∙ ap (λ ms. world_of others ms) h

module _ {V : Type 0} (same : V → V → Bool) where
  -- ---- the turn of one node

  pub turn_goes : (n i : ℕ) (stored : DurableState V) (volatile : VolatileState V) (input : Input V) → step_rejection stored volatile input ≡ None →
      turn_of same n i (Some (record { stored = stored; volatile = Some volatile })) (Some input) ≡ Some (record { stored = stored; transition = transition same n i stored volatile input })
  unfolding turn_of turn_running
  turn_goes n i stored volatile input e = rw e refl

  pub turn_rejected : (n i : ℕ) (stored : DurableState V) (volatile : VolatileState V) (input : Input V) (why : StepRejection) → step_rejection stored volatile input ≡ Some why →
      turn_of same n i (Some (record { stored = stored; volatile = Some volatile })) (Some input) ≡ None
  unfolding turn_of turn_running
  turn_rejected n i stored volatile input why e = rw e refl

  pub turn_stopped : (n i : ℕ) (node : Node V) (input : Input V) → node.volatile ≡ None → turn_of same n i (Some node) (Some input) ≡ None
  unfolding turn_of turn_running
  turn_stopped n i node input e = ap (λ volatile. turn_running same n i node.stored volatile input) e

  turn_no_input : (n i : ℕ) (node : Option (Node V)) → turn_of same n i node None ≡ None
  unfolding turn_of
  turn_no_input n i None = refl
  turn_no_input n i (Some node) = refl

  -- ---- the turn in a world

  pub turn_is : (w : World V) (n i : ℕ) (node : Node V) (action : Action V ℕ) (input : Input V) → length w.nodes ≡ n → slice_get w.nodes i ≡ Some node →
      input_of w.sent action ≡ Some input → turn same w i action ≡ turn_of same n i (Some node) (Some input)
  unfolding turn
  turn_is w n i node action input long there given =
      ap (λ m. turn_of same m i (slice_get w.nodes i) (input_of w.sent action)) long ∙ ap (λ x. turn_of same n i x (input_of w.sent action)) there
      ∙ ap (λ x. turn_of same n i (Some node) x) given

  pub turn_absent : (w : World V) (i : ℕ) (action : Action V ℕ) → slice_get w.nodes i ≡ None → turn same w i action ≡ None
  unfolding turn turn_of
  turn_absent w i action none = ap (λ x. turn_of same (length w.nodes) i x (input_of w.sent action)) none

  pub turn_unsent : (w : World V) (i : ℕ) (action : Action V ℕ) → input_of w.sent action ≡ None → turn same w i action ≡ None
  unfolding turn
  turn_unsent w i action none =
      ap (λ x. turn_of same (length w.nodes) i (slice_get w.nodes i) x) none ∙ turn_no_input (length w.nodes) i (slice_get w.nodes i)

  -- a stopped node takes no step
  pub turn_idle : (w : World V) (i : ℕ) (node : Node V) (action : Action V ℕ) → slice_get w.nodes i ≡ Some node → node.volatile ≡ None → turn same w i action ≡ None
  unfolding turn
  turn_idle w i node action there stopped =
      ap (λ x. turn_of same (length w.nodes) i x (input_of w.sent action)) there ∙ idle_by (input_of w.sent action)
    where
      idle_by : (given : Option (Input V)) → turn_of same (length w.nodes) i (Some node) given ≡ None
      idle_by None = turn_no_input (length w.nodes) i (Some node)
      idle_by (Some input) = turn_stopped (length w.nodes) i node input stopped

module _ {V : Type 0} where
  -- ---- why a step is rejected

  pub running_step_rejection : (stored : DurableState V) (volatile : VolatileState V) (input : Input V) →
      step_rejection_of (Some (record { stored = stored; volatile = Some volatile })) (Some input) ≡ step_rejection stored volatile input
  unfolding step_rejection_of step_rejection_running
  running_step_rejection stored volatile input = refl

  pub stopped_step_rejection : (node : Node V) (input : Input V) → node.volatile ≡ None → step_rejection_of (Some node) (Some input) ≡ None
  unfolding step_rejection_of step_rejection_running
  stopped_step_rejection node input e = ap (λ volatile. step_rejection_running node.stored volatile input) e

  step_rejection_no_input : (node : Option (Node V)) → step_rejection_of node None ≡ None
  unfolding step_rejection_of
  step_rejection_no_input None = refl
  step_rejection_no_input (Some node) = refl

  pub rejected_is : (w : World V) (i : ℕ) (node : Node V) (action : Action V ℕ) (input : Input V) → slice_get w.nodes i ≡ Some node →
      input_of w.sent action ≡ Some input → rejected_at w i action ≡ step_rejection_of (Some node) (Some input)
  unfolding rejected_at
  rejected_is w i node action input there given = ap (λ x. step_rejection_of x (input_of w.sent action)) there ∙ ap (λ x. step_rejection_of (Some node) x) given

  pub rejected_absent : (w : World V) (i : ℕ) (action : Action V ℕ) → slice_get w.nodes i ≡ None → rejected_at w i action ≡ None
  unfolding rejected_at step_rejection_of
  rejected_absent w i action none = ap (λ x. step_rejection_of x (input_of w.sent action)) none

  pub rejected_unsent : (w : World V) (i : ℕ) (action : Action V ℕ) → input_of w.sent action ≡ None → rejected_at w i action ≡ None
  unfolding rejected_at
  rejected_unsent w i action none = ap (λ x. step_rejection_of (slice_get w.nodes i) x) none ∙ step_rejection_no_input (slice_get w.nodes i)

  pub rejected_idle : (w : World V) (i : ℕ) (node : Node V) (action : Action V ℕ) → slice_get w.nodes i ≡ Some node → node.volatile ≡ None → rejected_at w i action ≡ None
  unfolding rejected_at
  rejected_idle w i node action there stopped = ap (λ x. step_rejection_of x (input_of w.sent action)) there ∙ idle_by (input_of w.sent action)
    where
      idle_by : (given : Option (Input V)) → step_rejection_of (Some node) given ≡ None
      idle_by None = step_rejection_no_input (Some node)
      idle_by (Some input) = stopped_step_rejection node input stopped

  -- ---- after an event: its node is set, and the messages sent are at the end

  stop_sets_parts : (w : World V) (i : ℕ) (stored : DurableState V) (volatile : Option (VolatileState V)) → slice_get w.nodes i ≡ Some (record { stored = stored; volatile = volatile }) →
      stop_running w i stored volatile ≡ record { nodes = slice_set w.nodes i (record { stored = stored; volatile = None }); sent = w.sent }
  unfolding stop_running with_node
  stop_sets_parts w i stored None e = world_eq w.nodes (slice_set w.nodes i _) w.sent w.sent (sym (set_same w.nodes i _ e)) refl
  stop_sets_parts w i stored (Some volatile) e = refl

  pub stop_sets : (w : World V) (i : ℕ) (node : Node V) → slice_get w.nodes i ≡ Some node →
      after_stop w i (slice_get w.nodes i) ≡ record { nodes = slice_set w.nodes i (node_stopped node); sent = w.sent }
  unfolding after_stop node_stopped
  stop_sets w i node e = ap (after_stop w i) e ∙ stop_sets_parts w i node.stored node.volatile e

  restart_sets_parts : (w : World V) (i : ℕ) (stored : DurableState V) (volatile : Option (VolatileState V)) → slice_get w.nodes i ≡ Some (record { stored = stored; volatile = volatile }) →
      restart_stopped w i stored volatile ≡ record { nodes = slice_set w.nodes i (record { stored = stored; volatile = volatile_restarted volatile }); sent = w.sent }
  unfolding restart_stopped with_node volatile_restarted
  restart_sets_parts w i stored None e = refl
  restart_sets_parts w i stored (Some volatile) e = world_eq w.nodes (slice_set w.nodes i _) w.sent w.sent (sym (set_same w.nodes i _ e)) refl

  pub restart_sets : (w : World V) (i : ℕ) (node : Node V) → slice_get w.nodes i ≡ Some node →
      after_restart w i (slice_get w.nodes i) ≡ record { nodes = slice_set w.nodes i (node_restarted node); sent = w.sent }
  unfolding after_restart node_restarted
  restart_sets w i node e = ap (after_restart w i) e ∙ restart_sets_parts w i node.stored node.volatile e
