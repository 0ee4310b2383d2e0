-- Messages sent earlier only shift message numbers: for each action, each event, and so a run.
use Rattle.std.proofs.Common.{◌≡◌, ℕ, suc, ◌+◌, Bool, List, [], ◌∷◌, ◌++◌, length, slice_get, slice_set, Option, Some, None, refl, ap, ◌∙◌, arith, append_assoc}
use Rattle.wf_model.specs.Message.{Message}
use Rattle.wf_model.specs.DurableState.{DurableState}
use Rattle.wf_model.specs.VolatileState.{VolatileState}
use Rattle.wf_model.specs.Table as table
use Rattle.wf_model.specs.Table.{Action}
use Rattle.wf_model.specs.World.{Node, World, Event, Act, Stop, Restart, Torn, Kept, Turn, delivered, input_of, stored_after, with_node, after_turn, after_torn, stop_running, after_stop, restart_stopped, after_restart, turn_of, turn, happens, steps}
use Rattle.wf_safety.specs.Earlier.{sent_before, raised_action, raised_event, raised, EarlierMessages}

-- an element after a prefix, by its index in the whole list
get_behind : {A : Type 0} (xs ys : List A) (k : ℕ) → slice_get (xs ++ ys) (length xs + k) ≡ slice_get ys k
get_behind [] ys k = let none_on : 0 + k ≡ k = omega arith in ap (slice_get ys) none_on
get_behind (x ∷ xs) ys k =
    let one_on : suc (length xs) + k ≡ suc (length xs + k) = omega arith in
    ap (slice_get (x ∷ xs ++ ys)) one_on ∙ get_behind xs ys k

module _ {V : Type 0} where
  abbrev world_of : List (Node V) → List (Message V) → World V
  world_of nodes sent = record { nodes = nodes; sent = sent }

  abbrev node_of : DurableState V → Option (VolatileState V) → Node V
  node_of stored volatile = record { stored = stored; volatile = volatile }

module _ {V : Type 0} (earlier : List (Message V)) where
  -- ---- the rest of a world

  -- the messages of a turn come after all messages sent before
  turn_before : (w : World V) (i : ℕ) (t : Option (Turn V)) → after_turn (sent_before earlier w) i t ≡ sent_before earlier (after_turn w i t)
  unfolding after_turn with_node sent_before
  turn_before w i None = refl
  turn_before w i (Some t) =
      ap (world_of (slice_set w.nodes i (node_of (stored_after t) (Some t.transition.volatile)))) (append_assoc earlier w.sent t.transition.messages)

  torn_before : (w : World V) (i : ℕ) (kept : Kept) (t : Option (Turn V)) → after_torn (sent_before earlier w) i kept t ≡ sent_before earlier (after_torn w i kept t)
  unfolding after_torn with_node sent_before
  torn_before w i kept None = refl
  torn_before w i kept (Some t) = refl

  stop_before : (w : World V) (i : ℕ) (stored : DurableState V) (volatile : Option (VolatileState V)) →
      stop_running (sent_before earlier w) i stored volatile ≡ sent_before earlier (stop_running w i stored volatile)
  unfolding stop_running with_node sent_before
  stop_before w i stored None = refl
  stop_before w i stored (Some volatile) = refl

  after_stop_before : (w : World V) (i : ℕ) (node : Option (Node V)) → after_stop (sent_before earlier w) i node ≡ sent_before earlier (after_stop w i node)
  unfolding after_stop
  after_stop_before w i None = refl
  after_stop_before w i (Some node) = stop_before w i node.stored node.volatile

  restart_before : (w : World V) (i : ℕ) (stored : DurableState V) (volatile : Option (VolatileState V)) →
      restart_stopped (sent_before earlier w) i stored volatile ≡ sent_before earlier (restart_stopped w i stored volatile)
  unfolding restart_stopped with_node sent_before
  restart_before w i stored None = refl
  restart_before w i stored (Some volatile) = refl

  after_restart_before : (w : World V) (i : ℕ) (node : Option (Node V)) → after_restart (sent_before earlier w) i node ≡ sent_before earlier (after_restart w i node)
  unfolding after_restart
  after_restart_before w i None = refl
  after_restart_before w i (Some node) = restart_before w i node.stored node.volatile

  -- ---- the inputs and the turns

  given_still : (sent : List (Message V)) (action : Action V ℕ) → input_of (earlier ++ sent) (raised_action (length earlier) action) ≡ input_of sent action
  unfolding input_of raised_action
  given_still sent (table.Propose d) = refl
  given_still sent table.Retry = refl
  given_still sent table.CatchUp = refl
  given_still sent (table.Deliver k) = ap delivered (get_behind earlier sent k)

  module _ (same : V → V → Bool) where
    turn_still : (w : World V) (i : ℕ) (action : Action V ℕ) → turn same (sent_before earlier w) i (raised_action (length earlier) action) ≡ turn same w i action
    unfolding turn sent_before
    turn_still w i action = ap (turn_of same (length w.nodes) i (slice_get w.nodes i)) (given_still w.sent action)

    acted_before : (w : World V) (i : ℕ) (action : Action V ℕ) →
        after_turn (sent_before earlier w) i (turn same (sent_before earlier w) i (raised_action (length earlier) action)) ≡ sent_before earlier (after_turn w i (turn same w i action))
    acted_before w i action = ap (after_turn (sent_before earlier w) i) (turn_still w i action) ∙ turn_before w i (turn same w i action)

    tore_before : (w : World V) (i : ℕ) (action : Action V ℕ) (kept : Kept) →
        after_torn (sent_before earlier w) i kept (turn same (sent_before earlier w) i (raised_action (length earlier) action)) ≡ sent_before earlier (after_torn w i kept (turn same w i action))
    tore_before w i action kept = ap (after_torn (sent_before earlier w) i kept) (turn_still w i action) ∙ torn_before w i kept (turn same w i action)

    -- ---- the events

    happens_before : (w : World V) (event : Event V) → happens same (sent_before earlier w) (raised_event (length earlier) event) ≡ sent_before earlier (happens same w event)
    unfolding happens raised_event raised_action sent_before
    happens_before w (Act i action) = acted_before w i action
    happens_before w (Stop i) = after_stop_before w i (slice_get w.nodes i)
    happens_before w (Restart i) = after_restart_before w i (slice_get w.nodes i)
    happens_before w (Torn i action kept) = tore_before w i action kept

    steps_before : (w : World V) (events : List (Event V)) → steps same (sent_before earlier w) (raised (length earlier) events) ≡ sent_before earlier (steps same w events)
    unfolding steps raised
    steps_before w [] = refl
    steps_before w (event ∷ rest) =
        ap (λ (x : World V). steps same x (raised (length earlier) rest)) (happens_before w event) ∙ steps_before (happens same w event) rest

pub earlier_messages : (V : Type 0) → EarlierMessages V
earlier_messages V = λ same earlier w events. steps_before earlier same w events
