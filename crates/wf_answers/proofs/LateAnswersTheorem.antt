-- The runs of late answers, by computing each.
use Rattle.std.proofs.Common.{ℕ, refl}
use Rattle.wf_answers.specs.LateAnswers.{LateNacksAreNoNews, LatePromisesDoNotCount, LateVotesDoNotCount, late_nack, late_promises, late_votes, second_asks}
use Rattle.wf_ballot.specs.Ballot.{below}
use Rattle.wf_ballot.specs.Majority.{count_nodes, is_majority_of}
use Rattle.wf_model.specs.Message.{first_vote, from_sequence}
use Rattle.wf_model.specs.DurableState.{nothing_stored, published, next_sequence, definition_at, put, raised, with_record}
use Rattle.wf_model.specs.VolatileState.{at_start, nobody, and_node, better, better_each, carried, proposed, same_ballot, same_phase, is_at, is_in_window, leading_at}
use Rattle.wf_model.specs.Table.{store, quiet, only_sends, stores, with_proposal, rounds_full, round_known, reject_round, reject_proposal, reject_retry, step_rejection, begin_at, ask_votes, lead, propose_by, on_propose, on_retry, on_catch_up, reports_of, reports, reports_from, on_ask, votes_from, promise_to, prepare_open, on_prepare, votes_at, vote_for, accept_open, on_accept, is_new_response, with_promise, asking_votes, leadership_of, promised, on_promise, with_vote, on_nack, ended, ends, after_publishing, voted, on_accepted, on_chosen, on_message, transition}
use Rattle.wf_model.specs.World.{step_rejection_running, step_rejection_of, rejected_at, refused, delivered, input_of, stored_after, kept_part, with_node, after_turn, after_torn, stop_running, after_stop, restart_stopped, after_restart, turn_running, turn_of, turn, happens, steps, start, after}
use Rattle.wf_model.specs.Chosen.{history_of, history, definition}
use Rattle.wf_model.specs.Examples.{same_map, histories, proposal_state_by, proposal_state_of, proposal_state, to_each, sent_from}

-- unfolds all definitions that a run computes with
abbrev computed : ℕ
unfolding below count_nodes is_majority_of nothing_stored published next_sequence definition_at put raised with_record at_start nobody and_node better better_each carried proposed same_ballot same_phase is_at is_in_window leading_at first_vote from_sequence store quiet only_sends stores with_proposal rounds_full round_known reject_round reject_proposal reject_retry step_rejection begin_at ask_votes lead propose_by on_propose on_retry on_catch_up reports_of reports reports_from on_ask votes_from promise_to prepare_open on_prepare votes_at vote_for accept_open on_accept is_new_response with_promise asking_votes leadership_of promised on_promise with_vote on_nack ended ends after_publishing voted on_accepted on_chosen on_message transition delivered input_of stored_after kept_part with_node after_turn after_torn stop_running after_stop restart_stopped after_restart turn_running turn_of turn happens steps start after history_of history definition same_map histories proposal_state_by proposal_state_of proposal_state to_each sent_from step_rejection_running step_rejection_of rejected_at refused late_promises second_asks late_votes late_nack
computed = 0

pub no_promise : LatePromisesDoNotCount
unfolding computed
no_promise = (refl, refl)

pub no_vote : LateVotesDoNotCount
unfolding computed
no_vote = (refl, (refl, refl))

pub no_news : LateNacksAreNoNews
unfolding computed
no_news = refl
