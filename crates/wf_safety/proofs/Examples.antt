-- The example runs, by computing them.
use Rattle.std.proofs.Common.{◌≡◌, ◌≢◌, ℕ, zero, suc, ◌*◌, ◌<◌, ◌≤◌, ◌==◌, ◌&&◌, not, Bool, true, false, List, [], ◌∷◌, slice_get, Option, Some, None, refl, arith, subst, sym, append-nil, append_assoc, inl, ◌++◌, replicate}
use Rattle.std.proofs.lemmas.Bool.{and_parts, false≢true}
use Rattle.wf_ballot.specs.Ballot.{below}
use Rattle.wf_ballot.specs.Majority.{count_nodes, is_majority_of}
use Rattle.wf_model.specs.Message.{first_vote, from_sequence}
use Rattle.wf_model.specs.DurableState.{DurableState, nothing_stored, published, next_sequence, definition_at, put, raised, with_record}
use Rattle.wf_model.specs.VolatileState.{at_start, nobody, and_node, better, better_each, carried, proposed, same_ballot, same_phase, is_at, is_in_window, leading_at}
use Rattle.wf_model.specs.Table.{store, quiet, only_sends, stores, with_proposal, rounds_full, round_known, reject_round, reject_proposal, reject_retry, step_rejection, begin_at, ask_votes, lead, propose_by, on_propose, on_retry, on_catch_up, reports_of, reports, reports_from, on_ask, votes_from, promise_to, prepare_open, on_prepare, votes_at, vote_for, accept_open, on_accept, is_new_response, with_promise, asking_votes, leadership_of, promised, on_promise, with_vote, on_nack, ended, ends, after_publishing, voted, on_accepted, on_chosen, on_message, transition}
use Rattle.wf_model.specs.World.{Node, World, Event, delivered, input_of, stored_after, kept_part, with_node, after_turn, after_torn, stop_running, after_stop, restart_stopped, after_restart, turn_running, turn_of, turn, happens, start}
use Rattle.wf_model.specs.Chosen.{history_of, history}
use Rattle.wf_model.specs.Examples.{Map, a, same_map, histories}
use Rattle.wf_safety.specs.Theorems.{node_of}
use Rattle.wf_safety.specs.Replacement.{Change, Occurs, Replaces, replace_stopped, after_replacement, world_changed, changes, after_changes, without_loss, HeldOnce, HeldOfHalf, AreElsewhere, IsGuarded, AreGuarded}
use Rattle.wf_safety.specs.Examples.{copy_of, with_replacement, IsEmpty, HasNoMap, promised_early, three_chosen, promise_broken, ThreeAreTooFew, four_chosen, old_messages_late, FourAreEnough, FourAreGuarded, published_alone, four_heard, vote_forgotten, VotesAreNeeded}

-- unfolds all definitions that a run computes with
abbrev computed : ℕ
unfolding below count_nodes is_majority_of first_vote from_sequence nothing_stored published next_sequence definition_at put raised with_record at_start nobody and_node better better_each carried proposed same_ballot same_phase is_at is_in_window leading_at store quiet only_sends stores with_proposal rounds_full round_known reject_round reject_proposal reject_retry step_rejection begin_at ask_votes lead propose_by on_propose on_retry on_catch_up reports_of reports reports_from on_ask votes_from promise_to prepare_open on_prepare votes_at vote_for accept_open on_accept is_new_response with_promise asking_votes leadership_of promised on_promise with_vote on_nack ended ends after_publishing voted on_accepted on_chosen on_message transition delivered input_of stored_after kept_part with_node after_turn after_torn stop_running after_stop restart_stopped after_restart turn_running turn_of turn happens start history_of history same_map histories replace_stopped after_replacement world_changed changes after_changes without_loss copy_of with_replacement promised_early three_chosen promise_broken four_chosen old_messages_late published_alone four_heard vote_forgotten
computed = 0

-- ---- nothing happens to node 2

is_elsewhere : {V : Type 0} → ℕ → List (Event V) → Bool
is_elsewhere i [] = true
is_elsewhere i (event ∷ events) = not (node_of event == i) && is_elsewhere i events

differs_by : (k i : ℕ) → not (k == i) ≡ true → k ≢ i
differs_by k i h = λ same. grind (arith)

are_elsewhere : {V : Type 0} (i : ℕ) (events : List (Event V)) → is_elsewhere i events ≡ true → AreElsewhere i (without_loss events)
unfolding is_elsewhere without_loss
are_elsewhere i [] h = tt
are_elsewhere i (event ∷ events) h =
    let parts = and_parts (not (node_of event == i)) (is_elsewhere i events) h in
    (differs_by (node_of event) i parts.0, are_elsewhere i events parts.1)

-- ---- nodes 0 and 1 are asked at once

others : ℕ → Bool
others zero = true
others (suc zero) = true
others (suc (suc j)) = false

others_are_half : 3 ≤ 2 * count_nodes 3 others
unfolding others count_nodes
others_are_half = omega arith

node_in : Option (Node Map) → Node Map
node_in None = record { stored = nothing_stored; volatile = None }
node_in (Some node) = node

node_of_number : World Map → ℕ → Node Map
node_of_number w j = node_in (slice_get w.nodes j)

module _ (w : World Map) (since : List (Change Map)) (P : DurableState Map → Type 0) where
  at_once : (j : ℕ) → slice_get w.nodes j ≡ Some (node_of_number w j) → P (node_of_number w j).stored → HeldOnce same_map w since P j
  unfolding changes
  at_once j is_there held = record {
    earlier = [];
    later = since;
    moment = refl;
    stored = (node_of_number w j).stored;
    node = record { volatile = (node_of_number w j).volatile; is_there = is_there };
    held = held;
  }

  each_asked : HeldOnce same_map w since P 0 → HeldOnce same_map w since P 1 → (j : ℕ) → j < 3 → others j ≡ true → HeldOnce same_map w since P j
  unfolding others
  each_asked first second zero less is_asked = first
  each_asked first second (suc zero) less is_asked = second
  each_asked first second (suc (suc j)) less is_asked = absurd (false≢true is_asked)

  half_asked : AreElsewhere 2 since → HeldOnce same_map w since P 0 → HeldOnce same_map w since P 1 → HeldOfHalf same_map 3 w since 2 P
  half_asked silent first second = record { silent = silent; asked = others; half = omega (arith, others_are_half); each = each_asked first second }

-- ---- the runs

early_asked : (since : List (Event Map)) → is_elsewhere 2 since ≡ true → HeldOfHalf same_map 3 (after_changes same_map 3 (without_loss promised_early)) (without_loss since) 2 IsEmpty
unfolding computed node_in node_of_number
early_asked since silent =
    let w : World Map = after_changes same_map 3 (without_loss promised_early) in
    half_asked w (without_loss since) IsEmpty (are_elsewhere 2 since silent)
    (at_once w (without_loss since) IsEmpty 0 refl (record { published_to = omega arith; voted_to = λ s later. refl }))
    (at_once w (without_loss since) IsEmpty 1 refl (record { published_to = omega arith; voted_to = λ s later. refl }))

pub three_are_too_few : ThreeAreTooFew
unfolding computed is_elsewhere
three_are_too_few = record { asked = early_asked three_chosen refl; copied = refl; leaves = refl }

pub four_are_enough : FourAreEnough
unfolding computed is_elsewhere
four_are_enough = record { asked = early_asked four_chosen refl; copied = refl; leaves = refl }

pub votes_are_needed : VotesAreNeeded
unfolding computed is_elsewhere node_in node_of_number
votes_are_needed =
    let w : World Map = after_changes same_map 3 (without_loss published_alone) in
    record {
      asked = half_asked w (without_loss four_heard) HasNoMap (are_elsewhere 2 four_heard refl)
          (at_once w (without_loss four_heard) HasNoMap 0 refl (omega arith))
          (at_once w (without_loss four_heard) HasNoMap 1 refl (omega arith));
      copied = refl;
      leaves = refl;
    }

-- ---- the guard of the run that goes on

events_guarded : {V : Type 0} (same : V → V → Bool) (n : ℕ) (before : List (Change V)) (events : List (Event V)) (more : List (Change V)) →
    AreGuarded same n (before ++ without_loss events) more → AreGuarded same n before (without_loss events ++ more)
unfolding without_loss
events_guarded same n before [] more guarded = subst (λ x. AreGuarded same n x more) (append-nil before) guarded
events_guarded same n before (event ∷ events) more guarded = (
  tt,
  events_guarded same n (before ++ Occurs event ∷ []) events more
      (subst (λ x. AreGuarded same n x more) (sym (append_assoc before (Occurs event ∷ []) (without_loss events))) guarded),
)

events_alone_guarded : {V : Type 0} (same : V → V → Bool) (n : ℕ) (before : List (Change V)) (events : List (Event V)) → AreGuarded same n before (without_loss events)
unfolding without_loss
events_alone_guarded same n before [] = tt
events_alone_guarded same n before (event ∷ events) = (tt, events_alone_guarded same n (before ++ Occurs event ∷ []) events)

four_replaced : IsGuarded same_map 3 (without_loss (promised_early ++ four_chosen)) 2 (copy_of (replicate 4 a))
unfolding computed is_elsewhere
four_replaced = record {
  before = without_loss promised_early;
  since = without_loss four_chosen;
  parts = refl;
  m = 0;
  guard = early_asked four_chosen refl;
  copy = record { no_votes = λ s. refl; no_promise = refl };
  known = without_loss (promised_early ++ four_chosen);
  rest = [];
  by_then = refl;
  source = 0;
  copied = ([], refl);
  far = inl (omega arith);
}

pub four_are_guarded : FourAreGuarded
unfolding with_replacement
four_are_guarded =
    events_guarded same_map 3 [] (promised_early ++ four_chosen) (Replaces 2 (copy_of (replicate 4 a)) ∷ without_loss old_messages_late)
    (four_replaced, events_alone_guarded same_map 3 (without_loss (promised_early ++ four_chosen) ++ Replaces 2 (copy_of (replicate 4 a)) ∷ []) old_messages_late)
