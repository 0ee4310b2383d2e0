-- A proposal at one of three new nodes, by computing the model's run of 27 deliveries.
use Rattle.std.proofs.Common.{◌≡◌, ◌≤◌, ◌<◌, ◌+◌, ◌*◌, ℕ, zero, suc, Bool, true, List, Option, Some, None, [], ◌∷◌, length, refl, sym, ap, ◌∙◌, arith, subst, inl, inr}
use Rattle.std.specs.Prelude.{⊤}
use Rattle.wf_delivery.proofs.NewCommon.{AllByRecursion, cases_eq, below, Definition, first_vote, nothing_stored, published, next_sequence, definition_at, put, with_record, VolatileState, at_start, nobody, and_node, better, better_each, carried, proposed, same_ballot, same_phase, is_at, leading_at, store, quiet, only_sends, stores, with_proposal, rounds_full, reject_round, reject_proposal, step_rejection, begin_at, ask_votes, propose_by, on_propose, reports_of, votes_from, promise_to, prepare_open, on_prepare, votes_at, vote_for, accept_open, on_accept, is_new_response, with_promise, asking_votes, leadership_of, promised, on_promise, with_vote, ended, ends, after_publishing, voted, on_accepted, on_chosen, on_message, transition, World, propose, delivered, input_of, stored_after, with_node, after_turn, turn_running, turn_of, turn, happens, steps, start, steps_in_turn, deliveries, rounds, to_each}
use Rattle.wf_ballot.specs.Majority.{count_nodes, is_majority_of}
use Rattle.wf_model.specs.DurableState.{raised}
use Rattle.wf_model.specs.Table.{reports}
use Rattle.wf_model.specs.World.{Node}
use Rattle.wf_delivery.specs.Publication.{Rests}
use Rattle.wf_delivery.proofs.Rounds.{rounds_more}

-- P of three numbers in turn
abbrev Three : (ℕ → Type 0) → ℕ → Type 0
Three P k = P (3 * k) × P (3 * k + 1) × P (3 * k + 2)

one_of : (P : ℕ → Type 0) (m : ℕ) → ((k : ℕ) → k < m → Three P k) → (n : ℕ) → n < 3 * m → P n
one_of P zero all n below = absurd (omega (arith, below))
one_of P (suc m) all n below = elim (cases_eq (3 * m) n) [
  | inl is ↦ subst P is (all m (omega arith)).0
  | inr first ↦ elim (cases_eq (3 * m + 1) n) [
    | inl is ↦ subst P is (all m (omega arith)).1
    | inr second ↦ elim (cases_eq (3 * m + 2) n) [
      | inl is ↦ subst P is (all m (omega arith)).2
      | inr third ↦ one_of P m (λ k within. all k (omega (arith, within))) n (grind (arith, below, first, second, third))
    ]
  ]
]

-- P of each number below 9, by thrice three in turn
abbrev Each : (ℕ → Type 0) → Type 0
Each P = Three (Three P) 0

each_of : (P : ℕ → Type 0) → Each P → (n : ℕ) → n < 9 → P n
each_of P all n below =
    let first : (k : ℕ) → k < 1 → Three (Three P) k = λ k within. subst (Three (Three P)) (let none : 0 ≡ k = omega (arith, within) in none) all in
    let second : (k : ℕ) → k < 3 → Three P k = λ k within. one_of (Three P) 1 first k (omega (arith, within)) in
    one_of P 3 second n (omega (arith, below))

-- the numbers of three nodes
abbrev pub three : List ℕ
three = 0 ∷ 1 ∷ 2 ∷ []

-- no proposal is running, if the node runs
abbrev pub RestsIn : Option (VolatileState Definition) → Type 0
RestsIn None = ⊤
RestsIn (Some volatile) = Rests volatile.proposing

-- a test that takes all definitions for equal
unfoldable pub always : Definition → Definition → Bool
always a b = true

-- Node i of three new ones has proposed the definition, and then the first messages were delivered
-- to each node, so many.
unfoldable pub world_at : Definition → ℕ → ℕ → World Definition
world_at d i zero = happens always (start 3) (propose i d)
world_at d i (suc k) = steps always (world_at d i k) (to_each three k)

-- unfolds all definitions that the run computes with
abbrev computed : ℕ
unfolding below count_nodes is_majority_of first_vote nothing_stored published next_sequence definition_at put raised with_record at_start nobody and_node better better_each carried proposed same_ballot same_phase is_at leading_at store quiet only_sends stores with_proposal rounds_full reject_round reject_proposal step_rejection begin_at ask_votes propose_by on_propose reports_of reports votes_from promise_to prepare_open on_prepare votes_at vote_for accept_open on_accept is_new_response with_promise asking_votes leadership_of promised on_promise with_vote ended ends after_publishing voted on_accepted on_chosen on_message transition delivered input_of stored_after with_node after_turn turn_running turn_of turn happens steps start rounds to_each deliveries always world_at
computed = 0

module _ (d : Definition) where
  module _ (same : Definition → Definition → Bool) where
    -- The deliveries of the next message compare no other definitions than this one with itself.
    abbrev IsAlike : ℕ → ℕ → Type 0
    IsAlike i k = steps same (world_at d i k) (to_each three k) ≡ steps (λ a b. same d d) (world_at d i k) (to_each three k)

    each_alike : (i : ℕ) → i < 3 → Each (IsAlike i)
    unfolding computed
    each_alike zero node = ((refl, refl, refl), (refl, refl, refl), (refl, refl, refl))
    each_alike (suc zero) node = ((refl, refl, refl), (refl, refl, refl), (refl, refl, refl))
    each_alike (suc (suc zero)) node = ((refl, refl, refl), (refl, refl, refl), (refl, refl, refl))
    each_alike (suc (suc (suc i))) node = absurd (omega (arith, node))

    begins_alike : (i : ℕ) → i < 3 → happens same (start 3) (propose i d) ≡ happens always (start 3) (propose i d)
    unfolding computed
    begins_alike zero node = refl
    begins_alike (suc zero) node = refl
    begins_alike (suc (suc zero)) node = refl
    begins_alike (suc (suc (suc i))) node = absurd (omega (arith, node))

    module _ (equal : same d d ≡ true) (i : ℕ) (node : i < 3) where
      -- The run by this test of definitions is that by the other one.
      pub is_run : (k : ℕ) → k ≤ 9 → steps same (happens same (start 3) (propose i d)) (rounds three 0 k) ≡ world_at d i k
      unfolding steps rounds world_at always
      is_run zero within = begins_alike i node
      is_run (suc k) within =
          ap (steps same (happens same (start 3) (propose i d))) (sym (rounds_more three 0 k))
          ∙ steps_in_turn Definition same (happens same (start 3) (propose i d)) (rounds three 0 k) (to_each three (0 + k))
          ∙ ap (λ (w : World Definition). steps same w (to_each three (0 + k))) (is_run k (omega (arith, within)))
          ∙ ap (λ m. steps same (world_at d i k) (to_each three m)) (omega arith)
          ∙ each_of (IsAlike i) (each_alike i node) k (omega (arith, within))
          ∙ ap (λ b. steps (λ x y. b) (world_at d i k) (to_each three k)) equal

  -- the proposal leaves as many nodes
  pub began_long : (same : Definition → Definition → Bool) (i : ℕ) → i < 3 → length (happens same (start 3) (propose i d)).nodes ≡ 3
  unfolding computed
  began_long same zero node = refl
  began_long same (suc zero) node = refl
  began_long same (suc (suc zero)) node = refl
  began_long same (suc (suc (suc i))) node = absurd (omega (arith, node))

  -- after nine rounds no message is left
  pub all_sent : (i : ℕ) → i < 3 → length (world_at d i 9).sent ≡ 9
  unfolding computed
  all_sent zero node = refl
  all_sent (suc zero) node = refl
  all_sent (suc (suc zero)) node = refl
  all_sent (suc (suc (suc i))) node = absurd (omega (arith, node))

  -- and each node has published the definition, and runs no proposal
  abbrev pub IsEnded : Node Definition → Type 0
  IsEnded node = (node.stored.history ≡ d ∷ []) × RestsIn node.volatile

  pub all_ended : (i : ℕ) → i < 3 → AllByRecursion IsEnded (world_at d i 9).nodes
  unfolding computed
  all_ended zero node = ((refl, tt), ((refl, tt), ((refl, tt), tt)))
  all_ended (suc zero) node = ((refl, tt), ((refl, tt), ((refl, tt), tt)))
  all_ended (suc (suc zero)) node = ((refl, tt), ((refl, tt), ((refl, tt), tt)))
  all_ended (suc (suc (suc i))) node = absurd (omega (arith, node))

-- the number of these deliveries
pub all_counted : length (deliveries three 0 9 0) ≡ 27
unfolding computed
all_counted = refl
