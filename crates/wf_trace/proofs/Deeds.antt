-- A deed of a process is an event of the model, or none.
use Rattle.std.proofs.Common.{◌≡◌, ℕ, zero, suc, Bool, List, [], ◌∷◌, ◌++◌, length, slice_get, slice_set, Option, Some, None, refl, sym, ap, ◌∙◌, inl, inr, append-nil}
use Rattle.std.specs.Prelude.{⊤}
use Rattle.wf_model.specs.Message.{Message}
use Rattle.wf_model.specs.DurableState.{DurableState}
use Rattle.wf_model.specs.VolatileState.{VolatileState}
use Rattle.wf_model.specs.Table as table
use Rattle.wf_model.specs.Table.{Action, Input}
use Rattle.wf_model.specs.World.{Node, World, Event, Act, Stop, Restart, Torn, Kept, Turn, delivered, input_of, with_node, after_turn, after_torn, stop_running, after_stop, restart_stopped, after_restart, turn_of, turn, happens, steps}
use Rattle.wf_model.specs.Chosen.{IsIn}
use Rattle.wf_safety.specs.Theorems.{node_of}
use Rattle.wf_trace.specs.Deed.{Deed, Takes, Crashes, Stops, Restarts, Steps, Tears, IsIdleDeed, IsNodeStopped, IsRestarted, IsDone}
use Rattle.wf_trace.specs.Trace.{IsInputOf, DeliversOneOf}
use Rattle.wf_trace.proofs.Nodes.{set_itself}

abbrev pub world_of : {V : Type 0} → List (Node V) → List (Message V) → World V
world_of nodes sent = record { nodes = nodes; sent = sent }

pub world_eq : {V : Type 0} (nodes others : List (Node V)) (sent outputs : List (Message V)) → nodes ≡ others → sent ≡ outputs → world_of nodes sent ≡ world_of others outputs
world_eq nodes others sent outputs e h = ap (λ ns. world_of ns sent) e ∙ ap (λ ms. world_of others ms) h

-- ---- the number of a message that was sent

number_of : {A : Type 0} (x : A) (xs : List A) → IsIn x xs → (k : ℕ) × (slice_get xs k ≡ Some x)
number_of x [] is_in = absurd is_in
number_of x (y ∷ xs) (inl same) = (zero, ap Some (sym same))
number_of x (y ∷ xs) (inr is_in) = let later = number_of x xs is_in in (suc later.0, later.1)

-- an input whose message was sent is that of an action
action_of : {V : Type 0} (sent : List (Message V)) (input : Input V) → IsInputOf sent input → (action : Action V ℕ) × (input_of sent action ≡ Some input)
unfolding input_of delivered
action_of sent (table.Propose d) received = (table.Propose d, refl)
action_of sent table.Retry received = (table.Retry, refl)
action_of sent table.CatchUp received = (table.CatchUp, refl)
action_of {V} sent (table.Deliver message) received =
    let number = number_of message sent received in
    (table.Deliver number.0, ap delivered number.1)

-- ---- the world after a deed

-- the events are about node i
abbrev pub AreEventsOf : {V : Type 0} → ℕ → List (Event V) → Type 0
AreEventsOf i [] = ⊤
AreEventsOf i (event ∷ events) = (node_of event ≡ i) × AreEventsOf i events

-- some events lead to the world where node i is this one, and these messages were sent too
pub record Becomes {V : Type 0} (same : V → V → Bool) (w : World V) (i : ℕ) (node : Node V) (outputs : List (Message V)) : Type 0 where
  pub events : List (Event V)
  pub own : AreEventsOf i events
  pub world : steps same w events ≡ world_of (slice_set w.nodes i node) (w.sent ++ outputs)

module _ {V : Type 0} (same : V → V → Bool) (w : World V) (i : ℕ) (before : Node V) (there : slice_get w.nodes i ≡ Some before) where
  -- the turn of an action, by the node and its input
  turn_is : (action : Action V ℕ) (input : Input V) (t : Turn V) → input_of w.sent action ≡ Some input → turn_of same (length w.nodes) i (Some before) (Some input) ≡ Some t → turn same w i action ≡ Some t
  unfolding turn
  turn_is action input t given effect =
      ap (λ x. turn_of same (length w.nodes) i x (input_of w.sent action)) there ∙ ap (λ x. turn_of same (length w.nodes) i (Some before) x) given ∙ effect

  -- nothing happens
  stays : (outputs : List (Message V)) (node : Node V) → IsIdleDeed before outputs node → Becomes same w i node outputs
  unfolding steps
  stays outputs node is = record {
    events = [];
    own = tt;
    world = world_eq w.nodes (slice_set w.nodes i node) w.sent (w.sent ++ outputs)
        (sym (ap (slice_set w.nodes i) is.same_node ∙ set_itself w.nodes i before there)) (sym (ap (λ ms. w.sent ++ ms) is.silent ∙ append-nil w.sent));
  }

  acts : (input : Input V) (outputs : List (Message V)) (node : Node V) → IsInputOf w.sent input → Steps same (length w.nodes) i before input outputs node → Becomes same w i node outputs
  unfolding steps happens after_turn with_node
  acts input outputs node received step =
      let action = action_of w.sent input received in
      record {
        events = Act i action.0 ∷ [];
        own = (refl, tt);
        world = ap (after_turn w i) (turn_is action.0 input step.turn action.1 step.effect)
            ∙ world_eq (slice_set w.nodes i _) (slice_set w.nodes i node) (w.sent ++ step.turn.transition.messages) (w.sent ++ outputs)
            (sym (ap (slice_set w.nodes i) step.node)) (sym (ap (λ ms. w.sent ++ ms) step.messages));
      }

  crashes : (input : Input V) (kept : Kept) (outputs : List (Message V)) (node : Node V) → IsInputOf w.sent input → Tears same (length w.nodes) i before input kept outputs node → Becomes same w i node outputs
  unfolding steps happens after_torn with_node
  crashes input kept outputs node received tear =
      let action = action_of w.sent input received in
      record {
        events = Torn i action.0 kept ∷ [];
        own = (refl, tt);
        world = ap (after_torn w i kept) (turn_is action.0 input tear.turn action.1 tear.effect)
            ∙ world_eq (slice_set w.nodes i _) (slice_set w.nodes i node) w.sent (w.sent ++ outputs)
            (sym (ap (slice_set w.nodes i) tear.node)) (sym (ap (λ ms. w.sent ++ ms) tear.silent ∙ append-nil w.sent));
      }

  -- a stop of a node, whether it runs or not
  stop_parts : (stored : DurableState V) (volatile : Option (VolatileState V)) → slice_get w.nodes i ≡ Some (record { stored = stored; volatile = volatile }) →
      stop_running w i stored volatile ≡ world_of (slice_set w.nodes i (record { stored = stored; volatile = None })) w.sent
  unfolding stop_running with_node
  stop_parts stored None at = world_eq w.nodes (slice_set w.nodes i _) w.sent w.sent (sym (set_itself w.nodes i _ at)) refl
  stop_parts stored (Some volatile) at = refl

  stops : (outputs : List (Message V)) (node : Node V) → IsNodeStopped same (length w.nodes) i before outputs node → Becomes same w i node outputs
  unfolding steps happens after_stop
  stops outputs node is = record {
    events = Stop i ∷ [];
    own = (refl, tt);
    world = ap (after_stop w i) there ∙ stop_parts before.stored before.volatile there
        ∙ world_eq (slice_set w.nodes i _) (slice_set w.nodes i node) w.sent (w.sent ++ outputs)
        (sym (ap (slice_set w.nodes i) is.node)) (sym (ap (λ ms. w.sent ++ ms) is.silent ∙ append-nil w.sent));
  }

  restarts : (outputs : List (Message V)) (node : Node V) → IsRestarted same (length w.nodes) i before outputs node → Becomes same w i node outputs
  unfolding steps happens after_restart restart_stopped with_node
  restarts outputs node is = record {
    events = Restart i ∷ [];
    own = (refl, tt);
    world = ap (after_restart w i) there ∙ ap (restart_stopped w i before.stored) is.stopped
        ∙ world_eq (slice_set w.nodes i _) (slice_set w.nodes i node) w.sent (w.sent ++ outputs)
        (sym (ap (slice_set w.nodes i) is.node)) (sym (ap (λ ms. w.sent ++ ms) is.silent ∙ append-nil w.sent));
  }

  pub deed_is_events : (deed : Deed V) (outputs : List (Message V)) (node : Node V) → DeliversOneOf w.sent deed → IsDone same (length w.nodes) i before deed outputs node → Becomes same w i node outputs
  deed_is_events (Takes input) outputs node received (inl step) = acts input outputs node received step
  deed_is_events (Takes input) outputs node received (inr is) = stays outputs node is
  deed_is_events (Crashes input kept) outputs node received tear = crashes input kept outputs node received tear
  deed_is_events Stops outputs node received is = stops outputs node is
  deed_is_events Restarts outputs node received is = restarts outputs node is
