-- Only nodes answer: a world keeps its number of nodes, and who answered has a place among them.
use Rattle.std.proofs.Common.{◌≡◌, ◌∙◌, ℕ, ◌<◌, Bool, List, [], ◌∷◌, length, refl, slice_get, subst}
use Rattle.std.specs.Prelude.{Option, Some, None}
use Rattle.std.proofs.lemmas.List.{length-set, length-replicate}
use Rattle.std.proofs.lemmas.Option.{slice_get_within}
use Rattle.wf_ballot.specs.Ballot.{Ballot}
use Rattle.wf_answers.specs.Senders.{AreSentByNodes, OnlyNodesAnswer}
use Rattle.wf_safety.specs.Theorems.{IsBound, KeptPromises, KeptPromisesIn}
use Rattle.wf_model.specs.DurableState.{DurableState, nothing_stored}
use Rattle.wf_model.specs.VolatileState.{VolatileState, at_start}
use Rattle.wf_model.specs.World.{Act, Event, Kept, Node, Restart, Stop, Torn, Turn, World, after, after_restart, after_stop, after_torn, after_turn, happens, kept_part, restart_stopped, start, steps, stop_running, stored_after, turn, with_node}

module _ {V : Type 0} where
  changed : (w : World V) (i : ℕ) (stored : DurableState V) (volatile : Option (VolatileState V)) → length (with_node w i stored volatile).nodes ≡ length w.nodes
  unfolding with_node
  changed w i stored volatile = length-set w.nodes i (record { stored = stored; volatile = volatile })

  after_step : (w : World V) (i : ℕ) (step : Option (Turn V)) → length (after_turn w i step).nodes ≡ length w.nodes
  unfolding after_turn
  after_step w i None = refl
  after_step w i (Some step) = changed w i (stored_after step) (Some step.transition.volatile)

  after_crash : (w : World V) (i : ℕ) (kept : Kept) (step : Option (Turn V)) → length (after_torn w i kept step).nodes ≡ length w.nodes
  unfolding after_torn
  after_crash w i kept None = refl
  after_crash w i kept (Some step) = changed w i (kept_part kept step) None

  stopped : (w : World V) (i : ℕ) (stored : DurableState V) (volatile : Option (VolatileState V)) → length (stop_running w i stored volatile).nodes ≡ length w.nodes
  unfolding stop_running
  stopped w i stored None = refl
  stopped w i stored (Some volatile) = changed w i stored None

  after_a_stop : (w : World V) (i : ℕ) (node : Option (Node V)) → length (after_stop w i node).nodes ≡ length w.nodes
  unfolding after_stop
  after_a_stop w i None = refl
  after_a_stop w i (Some node) = stopped w i node.stored node.volatile

  restarted : (w : World V) (i : ℕ) (stored : DurableState V) (volatile : Option (VolatileState V)) → length (restart_stopped w i stored volatile).nodes ≡ length w.nodes
  unfolding restart_stopped
  restarted w i stored None = changed w i stored (Some at_start)
  restarted w i stored (Some volatile) = refl

  after_a_restart : (w : World V) (i : ℕ) (node : Option (Node V)) → length (after_restart w i node).nodes ≡ length w.nodes
  unfolding after_restart
  after_a_restart w i None = refl
  after_a_restart w i (Some node) = restarted w i node.stored node.volatile

  module _ (same : V → V → Bool) where
    as_many : (w : World V) (event : Event V) → length (happens same w event).nodes ≡ length w.nodes
    unfolding happens
    as_many w (Act i action) = after_step w i (turn same w i action)
    as_many w (Stop i) = after_a_stop w i (slice_get w.nodes i)
    as_many w (Restart i) = after_a_restart w i (slice_get w.nodes i)
    as_many w (Torn i action kept) = after_crash w i kept (turn same w i action)

    as_many_still : (w : World V) (events : List (Event V)) → length (steps same w events).nodes ≡ length w.nodes
    unfolding steps
    as_many_still w [] = refl
    as_many_still w (event ∷ events) = as_many_still (happens same w event) events ∙ as_many w event

    all_there : (n : ℕ) (events : List (Event V)) → length (after same n events).nodes ≡ n
    unfolding after start
    all_there n events = as_many_still (start n) events ∙ length-replicate n (record { stored = nothing_stored; volatile = Some at_start })

  -- a bound node is one of them
  is_node : (n : ℕ) (w : World V) → length w.nodes ≡ n → (i : ℕ) → (b : Ballot) → IsBound w i b → i < n
  is_node n w size i b bound = subst (λ k. i < k) size (slice_get_within w.nodes i _ bound.node.is_there)

  are_nodes : (n : ℕ) (w : World V) → length w.nodes ≡ n → KeptPromisesIn w → AreSentByNodes n w
  are_nodes n w size theorem = record {
    promised = λ i s b votes sent. is_node n w size i b (theorem.promised i s b votes sent);
    reports = λ i base s b vote reports. is_node n w size i b (theorem.promised i base b reports.votes reports.stated);
    voted = λ i s b sent. is_node n w size i b (theorem.accepted i s b sent);
  }

pub only_nodes : (V : Type 0) → KeptPromises V → OnlyNodesAnswer V
only_nodes V theorem same n events = are_nodes n (after same n events) (all_there same n events) (theorem same n events)
