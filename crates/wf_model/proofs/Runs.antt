-- The example runs, by computing each.
use Rattle.std.proofs.Common.{◌≡◌, ℕ, [], ◌∷◌, refl, Some, None}
use Rattle.wf_ballot.specs.Ballot.{below}
use Rattle.wf_ballot.specs.Majority.{count_nodes, is_majority_of}
use Rattle.wf_model.specs.Message.{Prepare, Promise, Accept, Accepted, Nack, Chosen, Ask, first_vote, from_sequence}
use Rattle.wf_model.specs.DurableState.{nothing_stored, published, next_sequence, definition_at, put, raised, with_record}
use Rattle.wf_model.specs.VolatileState.{at_start, nobody, and_node, better, better_each, carried, proposed, same_ballot, same_phase, is_at, is_in_window, leading_at}
use Rattle.wf_model.specs.Table.{Busy, SequenceFull, RoundsFull, NothingToRetry, store, quiet, only_sends, stores, with_proposal, rounds_full, round_known, reject_round, reject_proposal, reject_retry, step_rejection, begin_at, ask_votes, lead, propose_by, on_propose, on_retry, on_catch_up, reports_of, reports, reports_from, on_ask, votes_from, promise_to, prepare_open, on_prepare, votes_at, vote_for, accept_open, on_accept, is_new_response, with_promise, asking_votes, leadership_of, promised, on_promise, with_vote, on_nack, ended, ends, after_publishing, voted, on_accepted, on_chosen, on_message, transition}
use Rattle.wf_model.specs.World.{step_rejection_running, step_rejection_of, rejected_at, refused, propose, retry, catch_up, Before, After, delivered, input_of, stored_after, kept_part, with_node, after_turn, after_torn, stop_running, after_stop, restart_stopped, after_restart, turn_running, turn_of, turn, happens, steps, start, after}
use Rattle.wf_model.specs.Chosen.{history_of, history, definition}
use Rattle.wf_model.specs.Examples.{full_history, full_rounds, only, a, b, empty, same_map, last_leader, histories, Runs, PublishedAt, OvertakenAt, proposal_state_by, proposal_state_of, proposal_state, run, Leaves, LeavesEach, none, just, to_each, pump, thrice_back, alone, three_pumped, two_of_four, three_of_four, half_accepted, comes_back, taken_over, voted_once, late_accept, two_reported, old_accept, outrun, behind, catches_up, new_round, repeated, torn, torn_then, two_led, four_led, fifth_prepared, led_too_low, led_again, reported_ahead, leader_restarts, sent_from, ballot, vote, no_votes}

-- unfolds all definitions that a run computes with
abbrev computed : ℕ
unfolding below count_nodes is_majority_of nothing_stored published next_sequence definition_at put raised with_record at_start nobody and_node better better_each carried proposed same_ballot same_phase is_at is_in_window leading_at first_vote from_sequence store quiet only_sends stores with_proposal rounds_full round_known reject_round reject_proposal reject_retry step_rejection begin_at ask_votes lead propose_by on_propose on_retry on_catch_up reports_of reports reports_from on_ask votes_from promise_to prepare_open on_prepare votes_at vote_for accept_open on_accept is_new_response with_promise asking_votes leadership_of promised on_promise with_vote on_nack ended ends after_publishing voted on_accepted on_chosen on_message transition delivered input_of stored_after kept_part with_node after_turn after_torn stop_running after_stop restart_stopped after_restart turn_running turn_of turn happens steps start after history_of history definition same_map histories proposal_state_by proposal_state_of proposal_state to_each pump thrice_back alone three_pumped two_of_four three_of_four half_accepted comes_back taken_over voted_once late_accept two_reported old_accept outrun behind catches_up new_round repeated torn torn_then two_led four_led fifth_prepared led_too_low led_again reported_ahead leader_restarts last_leader sent_from step_rejection_running step_rejection_of rejected_at refused full_history full_rounds only
computed = 0

pub alone_leaves : Leaves 1 alone (just a ∷ []) 5
unfolding computed
alone_leaves = (refl, refl)

pub alone_stands : proposal_state (run 1 alone) 0 ≡ PublishedAt 1
unfolding computed
alone_stands = refl

pub three_leave : LeavesEach 3 three_pumped (just a) 9
unfolding computed
three_leave = (refl, refl)

pub two_of_four_leave : LeavesEach 4 two_of_four none 3
unfolding computed
two_of_four_leave = (refl, refl)

pub three_of_four_leave : LeavesEach 4 three_of_four (just a) 10
unfolding computed
three_of_four_leave = (refl, refl)

pub comes_back_leaves : Leaves 3 comes_back (just b ∷ none ∷ just b ∷ []) 14
unfolding computed
comes_back_leaves = (refl, refl)

pub taken_over_leaves : Leaves 3 taken_over (none ∷ none ∷ just a ∷ []) 12
unfolding computed
taken_over_leaves = (refl, refl)

pub repeated_leaves : LeavesEach 3 repeated (just a) 27
unfolding computed
repeated_leaves = (refl, refl)

pub voted_once_leaves : LeavesEach 3 voted_once none 6
unfolding computed
voted_once_leaves = (refl, refl)

pub voted_once_answers : sent_from (run 3 voted_once) 4 ≡ Accepted 0 1 (ballot 1 0) ∷ Accepted 0 1 (ballot 1 0) ∷ []
unfolding computed
voted_once_answers = refl

pub late_accept_leaves : Leaves 3 late_accept (none ∷ just b ∷ none ∷ []) 13
unfolding computed
late_accept_leaves = (refl, refl)

pub late_accept_answers : sent_from (run 3 late_accept) 11 ≡ Accepted 0 1 (ballot 1 0) ∷ Nack 2 1 (ballot 1 0) (ballot 1 1) ∷ []
unfolding computed
late_accept_answers = refl

pub two_reported_asks : sent_from (run 3 two_reported) 14 ≡ Promise 2 1 (ballot 2 0) (Some (vote 1 1 b) ∷ None ∷ None ∷ None ∷ []) ∷ Promise 0 1 (ballot 2 0) (Some (vote 1 0 a) ∷ None ∷ None ∷ None ∷ []) ∷ Accept 1 (ballot 2 0) b ∷ []
unfolding computed
two_reported_asks = refl

pub old_accept_answers : sent_from (run 3 old_accept) 16 ≡ Accept 1 (ballot 2 0) b ∷ Nack 0 1 (ballot 1 0) (ballot 2 0) ∷ []
unfolding computed
old_accept_answers = refl

pub outrun_asks : sent_from (run 3 outrun) 4 ≡ Prepare 1 (ballot 1 0) ∷ Nack 2 1 (ballot 1 0) (ballot 3 1) ∷ Prepare 1 (ballot 4 0) ∷ []
unfolding computed
outrun_asks = refl

pub behind_leaves : LeavesEach 3 behind (a ∷ b ∷ a ∷ []) 20
unfolding computed
behind_leaves = (refl, refl)

pub behind_asks : sent_from (run 3 behind) 17 ≡ Ask 2 ∷ Chosen 2 b ∷ Chosen 3 a ∷ []
unfolding computed
behind_asks = refl

pub catches_up_leaves : LeavesEach 3 catches_up (just a) 9
unfolding computed
catches_up_leaves = (refl, refl)

pub catches_up_asks : sent_from (run 3 catches_up) 7 ≡ Ask 1 ∷ Chosen 1 a ∷ []
unfolding computed
catches_up_asks = refl

pub caught_up : happens same_map (only full_history) (catch_up 0) ≡ only full_history
unfolding computed
caught_up = refl

pub new_round_leaves : LeavesEach 2 new_round none 6
unfolding computed
new_round_leaves = (refl, refl)

pub new_round_asks : sent_from (run 2 new_round) 3 ≡ Accept 1 (ballot 1 1) b ∷ Accepted 1 1 (ballot 1 1) ∷ Prepare 1 (ballot 2 1) ∷ []
unfolding computed
new_round_asks = refl

pub torn_before : LeavesEach 3 (torn_then Before 3) (just a) 12
unfolding computed
torn_before = (refl, refl)

pub torn_after : LeavesEach 3 (torn_then After 2) (just a) 11
unfolding computed
torn_after = (refl, refl)

pub comes_back_stands : proposal_state (run 3 comes_back) 0 ≡ OvertakenAt 1
unfolding computed
comes_back_stands = refl

pub comes_back_definition : definition empty (run 3 comes_back) 0 1 ≡ Some b
unfolding computed
comes_back_definition = refl

pub taken_over_stands : proposal_state (run 3 taken_over) 2 ≡ OvertakenAt 1
unfolding computed
taken_over_stands = refl

pub taken_over_other : proposal_state (run 3 taken_over) 0 ≡ Runs
unfolding computed
taken_over_other = refl

pub taken_over_definition : definition empty (run 3 taken_over) 2 1 ≡ Some a
unfolding computed
taken_over_definition = refl

pub torn_before_sent : LeavesEach 3 (torn Before) none 3
unfolding computed
torn_before_sent = (refl, refl)

pub torn_after_sent : LeavesEach 3 (torn After) none 2
unfolding computed
torn_after_sent = (refl, refl)

pub rejected_busy : refused (run 1 (propose 0 a ∷ [])) (propose 0 b) ≡ Some Busy
unfolding computed
rejected_busy = refl

pub rejected_busy_unchanged : run 1 (propose 0 a ∷ propose 0 b ∷ []) ≡ run 1 (propose 0 a ∷ [])
unfolding computed
rejected_busy_unchanged = refl

pub rejected_nothing : refused (run 1 []) (retry 0) ≡ Some NothingToRetry
unfolding computed
rejected_nothing = refl

pub rejected_nothing_unchanged : run 1 (retry 0 ∷ []) ≡ run 1 []
unfolding computed
rejected_nothing_unchanged = refl

pub rejected_sequences : refused (only full_history) (propose 0 a) ≡ Some SequenceFull
unfolding computed
rejected_sequences = refl

pub rejected_sequences_unchanged : happens same_map (only full_history) (propose 0 a) ≡ only full_history
unfolding computed
rejected_sequences_unchanged = refl

pub rejected_rounds : refused (only full_rounds) (propose 0 a) ≡ Some RoundsFull
unfolding computed
rejected_rounds = refl

pub rejected_rounds_unchanged : happens same_map (only full_rounds) (propose 0 a) ≡ only full_rounds
unfolding computed
rejected_rounds_unchanged = refl

pub two_led_asks : sent_from (run 3 two_led) 9 ≡ Accept 2 (ballot 1 0) a ∷ Accepted 0 2 (ballot 1 0) ∷ Accepted 1 2 (ballot 1 0) ∷ Accepted 2 2 (ballot 1 0) ∷ Chosen 2 a ∷ []
unfolding computed
two_led_asks = refl

pub four_led_leave : LeavesEach 3 four_led (a ∷ a ∷ a ∷ a ∷ []) 24
unfolding computed
four_led_leave = (refl, refl)

pub fifth_prepared_leaves : LeavesEach 3 fifth_prepared (a ∷ a ∷ a ∷ a ∷ a ∷ []) 33
unfolding computed
fifth_prepared_leaves = (refl, refl)

pub led_too_low_leaves : LeavesEach 3 led_too_low (a ∷ b ∷ []) 22
unfolding computed
led_too_low_leaves = (refl, refl)

pub led_too_low_stands : proposal_state (run 3 led_too_low) 0 ≡ Runs
unfolding computed
led_too_low_stands = refl

pub led_again_leaves : LeavesEach 3 led_again (a ∷ b ∷ a ∷ []) 31
unfolding computed
led_again_leaves = (refl, refl)

pub reported_ahead_asks : sent_from (run 3 reported_ahead) 9 ≡
    Prepare 1 (ballot 1 2) ∷ Promise 2 1 (ballot 1 2) no_votes ∷ Promise 1 1 (ballot 1 2) (Some (vote 1 0 a) ∷ Some (vote 1 0 b) ∷ None ∷ None ∷ []) ∷
    Accept 1 (ballot 1 2) a ∷ Accepted 1 1 (ballot 1 2) ∷ Accepted 2 1 (ballot 1 2) ∷ Chosen 1 a ∷
    Accept 2 (ballot 1 2) b ∷ Accepted 1 2 (ballot 1 2) ∷ Accepted 2 2 (ballot 1 2) ∷ Chosen 2 b ∷ []
unfolding computed
reported_ahead_asks = refl

pub reported_ahead_stands : proposal_state (run 3 reported_ahead) 2 ≡ OvertakenAt 2
unfolding computed
reported_ahead_stands = refl

pub leader_restarts_asks : sent_from (run 3 leader_restarts) 9 ≡ Prepare 2 (ballot 2 0) ∷ []
unfolding computed
leader_restarts_asks = refl

pub last_leader_proposes : refused last_leader (propose 0 a) ≡ None
unfolding computed
last_leader_proposes = refl
