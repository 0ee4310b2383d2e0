-- The example's lives, by computing each deed.
use Rattle.std.proofs.Common.{◌≡◌, ℕ, zero, suc, ◌<◌, Bool, List, [], Option, Some, None, refl, inl, inr, lit<, arith}
use Rattle.wf_ballot.specs.Ballot.{below}
use Rattle.wf_ballot.specs.Majority.{count_nodes, is_majority_of}
use Rattle.wf_model.specs.Examples.{Map, a, ballot, just, no_votes, same_map}
use Rattle.wf_model.specs.Message.{Message, Prepare, Promise, Accept, Accepted, Chosen, first_vote, from_sequence}
use Rattle.wf_model.specs.DurableState.{nothing_stored, published, next_sequence, definition_at, put, raised, with_record}
use Rattle.wf_model.specs.VolatileState.{at_start, nobody, and_node, better, better_each, carried, proposed, same_ballot, same_phase, is_at, is_in_window, leading_at}
use Rattle.wf_model.specs.Table.{Input, Propose, Deliver, store, quiet, only_sends, stores, with_proposal, rounds_full, round_known, reject_round, reject_proposal, reject_retry, step_rejection, begin_at, ask_votes, lead, propose_by, on_propose, votes_from, promise_to, prepare_open, on_prepare, votes_at, vote_for, accept_open, on_accept, is_new_response, with_promise, asking_votes, leadership_of, promised, on_promise, with_vote, ended, ends, after_publishing, voted, on_accepted, on_chosen, on_message, transition}
use Rattle.wf_model.specs.World.{Node, Turn, stored_after, kept_part, turn_running, turn_of}
use Rattle.wf_trace.specs.Deed.{Takes, IsDone, new_node}
use Rattle.wf_trace.specs.Trace.{of_process, IsLifeByEntries, IsTrace}
use Rattle.wf_trace.specs.Examples.{three_publish, EndsPublished}

-- ---- what an input does

node_with : {V : Type 0} → Option (Turn V) → Node V → Node V
node_with None node = node
node_with (Some turn) node = record { stored = stored_after turn; volatile = Some turn.transition.volatile }

outputs_with : {V : Type 0} → Option (Turn V) → List (Message V)
outputs_with None = []
outputs_with (Some turn) = turn.transition.messages

done_with : {V : Type 0} (same : V → V → Bool) (n i : ℕ) (before : Node V) (input : Input V) (turn : Option (Turn V)) → turn_of same n i (Some before) (Some input) ≡ turn →
    IsDone same n i before (Takes input) (outputs_with turn) (node_with turn before)
unfolding node_with outputs_with
done_with same n i before input None effect = inr (record { same_node = refl; silent = refl })
done_with same n i before input (Some turn) effect = inl (record { turn = turn; effect = effect; messages = refl; node = refl })

takes : (i : ℕ) (before : Node Map) (input : Input Map) → IsDone same_map 3 i before (Takes input) (outputs_with (turn_of same_map 3 i (Some before) (Some input))) (node_with (turn_of same_map 3 i (Some before) (Some input)) before)
takes i before input = done_with same_map 3 i before input (turn_of same_map 3 i (Some before) (Some input)) refl

-- the node after the input
next : ℕ → Node Map → Input Map → Node Map
next i before input = node_with (turn_of same_map 3 i (Some before) (Some input)) before

-- unfolds all definitions that a step computes with
abbrev computed : ℕ
unfolding below count_nodes is_majority_of nothing_stored published next_sequence definition_at put raised with_record at_start nobody and_node better better_each carried proposed same_ballot same_phase is_at is_in_window leading_at first_vote from_sequence store quiet only_sends stores with_proposal rounds_full round_known reject_round reject_proposal reject_retry step_rejection begin_at ask_votes lead propose_by on_propose votes_from promise_to prepare_open on_prepare votes_at vote_for accept_open on_accept is_new_response with_promise asking_votes leadership_of promised on_promise with_vote ended ends after_publishing voted on_accepted on_chosen on_message transition stored_after kept_part turn_running turn_of same_map of_process three_publish node_with outputs_with next
computed = 0

-- ---- the three nodes

prepare : Input Map
prepare = Deliver (Prepare 1 (ballot 1 0))

accept : Input Map
accept = Deliver (Accept 1 (ballot 1 0) a)

chosen : Input Map
chosen = Deliver (Chosen 1 a)

proposed_0 : Node Map
proposed_0 = next 0 new_node (Propose a)

promised_0 : Node Map
promised_0 = next 0 proposed_0 prepare

reported_0 : Node Map
reported_0 = next 0 promised_0 (Deliver (Promise 0 1 (ballot 1 0) no_votes))

asked_0 : Node Map
asked_0 = next 0 reported_0 (Deliver (Promise 1 1 (ballot 1 0) no_votes))

voted_0 : Node Map
voted_0 = next 0 asked_0 accept

counted_0 : Node Map
counted_0 = next 0 voted_0 (Deliver (Accepted 0 1 (ballot 1 0)))

chosen_0 : Node Map
chosen_0 = next 0 counted_0 (Deliver (Accepted 1 1 (ballot 1 0)))

published_0 : Node Map
published_0 = next 0 chosen_0 chosen

promised_1 : Node Map
promised_1 = next 1 new_node prepare

voted_1 : Node Map
voted_1 = next 1 promised_1 accept

stopped_1 : Node Map
stopped_1 = record { stored = voted_1.stored; volatile = None }

restarted_1 : Node Map
restarted_1 = record { stored = voted_1.stored; volatile = Some at_start }

published_1 : Node Map
published_1 = next 1 restarted_1 chosen

-- the promise that process 2 stored before it crashed
turn_2 : Turn Map
turn_2 = record { stored = nothing_stored; transition = transition same_map 3 2 nothing_stored at_start prepare }

crashed_2 : Node Map
crashed_2 = record { stored = stored_after turn_2; volatile = None }

restarted_2 : Node Map
restarted_2 = record { stored = stored_after turn_2; volatile = Some at_start }

published_2 : Node Map
published_2 = next 2 restarted_2 chosen

last : ℕ → Node Map
last zero = published_0
last (suc zero) = published_1
last (suc (suc i)) = published_2

-- unfolds the nodes too
abbrev all : ℕ
unfolding computed prepare accept chosen proposed_0 promised_0 reported_0 asked_0 voted_0 counted_0 chosen_0 published_0 promised_1 voted_1 stopped_1 restarted_1 published_1 turn_2 crashed_2 restarted_2 published_2 last
all = 0

-- ---- the lives

life_0 : IsLifeByEntries same_map 3 0 new_node (of_process 0 three_publish) published_0
unfolding all
life_0 = (
  proposed_0,
  takes 0 new_node (Propose a),
  (
    promised_0,
    takes 0 proposed_0 prepare,
    (
      reported_0,
      takes 0 promised_0 (Deliver (Promise 0 1 (ballot 1 0) no_votes)),
      (
        asked_0,
        takes 0 reported_0 (Deliver (Promise 1 1 (ballot 1 0) no_votes)),
        (
          voted_0,
          takes 0 asked_0 accept,
          (
            counted_0,
            takes 0 voted_0 (Deliver (Accepted 0 1 (ballot 1 0))),
            (
              chosen_0,
              takes 0 counted_0 (Deliver (Accepted 1 1 (ballot 1 0))),
              (published_0, takes 0 chosen_0 chosen, refl),
            ),
          ),
        ),
      ),
    ),
  ),
)

life_1 : IsLifeByEntries same_map 3 1 new_node (of_process 1 three_publish) published_1
unfolding all
life_1 = (
  promised_1,
  takes 1 new_node prepare,
  (
    voted_1,
    takes 1 promised_1 accept,
    (
      stopped_1,
      record { silent = refl; node = refl },
      (
        restarted_1,
        record { stopped = refl; silent = refl; node = refl },
        (published_1, takes 1 restarted_1 chosen, refl),
      ),
    ),
  ),
)

life_2 : IsLifeByEntries same_map 3 2 new_node (of_process 2 three_publish) published_2
unfolding all
life_2 = (
  crashed_2,
  record { turn = turn_2; effect = refl; silent = refl; node = refl },
  (
    restarted_2,
    record { stopped = refl; silent = refl; node = refl },
    (published_2, takes 2 restarted_2 chosen, refl),
  ),
)

lives : (i : ℕ) → i < 3 → IsLifeByEntries same_map 3 i new_node (of_process i three_publish) (last i)
unfolding last
lives zero less = life_0
lives (suc zero) less = life_1
lives (suc (suc zero)) less = life_2
lives (suc (suc (suc i))) less = absurd (omega (arith, less))

trace : IsTrace same_map 3 three_publish last
unfolding three_publish
trace = record {
  members = (lit< tt, (lit< tt, (lit< tt, (lit< tt, (lit< tt, (lit< tt, (lit< tt, (lit< tt, (lit< tt, (lit< tt, (lit< tt, (lit< tt, (lit< tt, (lit< tt, (lit< tt, (lit< tt, tt))))))))))))))));
  lives = lives;
  received = (tt, (inl refl, (inl refl, (inl refl, (tt, (inr (inl refl), (inr (inr (inl refl)), (inr (inr (inr (inl refl))), (inr (inr (inr (inl refl))), (tt, (inr (inr (inr (inr (inr (inl refl))))), (inr (inr (inr (inr (inl refl)))), (inr (inr (inr (inr (inr (inr (inl refl)))))), (inr (inr (inr (inr (inr (inr (inl refl)))))), (tt, (inr (inr (inr (inr (inr (inr (inl refl)))))), tt))))))))))))))));
}

each_published : (i : ℕ) → i < 3 → (last i).stored.history ≡ just a
unfolding all
each_published zero less = refl
each_published (suc zero) less = refl
each_published (suc (suc i)) less = refl

pub three_publish_a : EndsPublished three_publish a
three_publish_a = record { nodes = last; trace = trace; published = each_published }
