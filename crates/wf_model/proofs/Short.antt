-- No transition sends more than eight messages: at most one, except when an Ask is answered.
use Rattle.std.proofs.Common.{◌≡◌, ℕ, zero, suc, ◌+◌, ◌==◌, ◌≤◌, nat_lt, nat_le, Bool, true, false, cond, List, [], ◌∷◌, length, Option, Some, None, refl, length-append, arith}
use Rattle.wf_ballot.specs.Ballot.{Ballot}
use Rattle.wf_ballot.specs.Majority.{count_nodes, is_majority_of}
use Rattle.wf_ballot.specs.Sequence.{last_sequence}
use Rattle.wf_model.specs.Message.{Vote, Message, Prepare, Promise, Accept, Accepted, Nack, Chosen, Ask}
use Rattle.wf_model.specs.DurableState.{DurableState, Record, published, next_sequence, definition_at}
use Rattle.wf_model.specs.VolatileState.{Proposal, Proposing, Idle, Running, Won, Overtaken, Leadership, VolatileState, Preparing, Accepting, is_at, leading_at}
use Rattle.wf_model.specs.Table.{Transition, Input, Propose, Retry, CatchUp, Deliver, quiet, only_sends, stores, running_transition, when_running, with_proposal, round_known, begin_at, ask_votes, lead, propose_by, on_propose, on_retry, on_catch_up, reports_of, reports, reports_from, on_ask, most_reports, is_above, is_rejected, nack, promise_to, prepare_open, on_prepare, votes_at, vote_for, accept_open, on_accept, is_new_response, with_promise, asking_votes, leadership_of, promised, on_promise, with_vote, on_nack, voted, on_accepted, on_chosen, on_message, transition}
use Rattle.wf_model.specs.Fits.{TransitionsAreShort}

abbrev IsShort : {V : Type 0} → Transition V → Type 0
IsShort r = length r.messages ≤ most_reports

nack_short : (V : Type 0) (me s : ℕ) (b : Ballot) (promise : Option Ballot) → length (nack {V = V} me s b promise) ≤ 8
nack_short V me s b None = omega arith
nack_short V me s b (Some promise) = omega arith

module _ {V : Type 0} where
  -- ---- the forms of a transition

  quiet_short : (volatile : VolatileState V) → IsShort (quiet volatile)
  unfolding quiet
  quiet_short volatile = omega arith

  sends_short : (volatile : VolatileState V) (messages : List (Message V)) → length messages ≤ 8 → IsShort (only_sends volatile messages)
  unfolding only_sends
  sends_short volatile messages few = few

  stores_short : (volatile : VolatileState V) (r : Record V) (message : Message V) → IsShort (stores volatile r message)
  unfolding stores
  stores_short volatile r message = omega arith

  running_transition_short : (volatile : VolatileState V) (proposing : Proposing V) (transition_of : Proposal V → Transition V) → ((p : Proposal V) → IsShort (transition_of p)) →
      IsShort (running_transition volatile proposing transition_of)
  running_transition_short volatile Idle transition_of short = quiet_short volatile
  running_transition_short volatile (Running p) transition_of short = short p
  running_transition_short volatile (Won s) transition_of short = quiet_short volatile
  running_transition_short volatile (Overtaken s) transition_of short = quiet_short volatile

  when_running_short : (volatile : VolatileState V) (transition_of : Proposal V → Transition V) → ((p : Proposal V) → IsShort (transition_of p)) → IsShort (when_running volatile transition_of)
  when_running_short volatile transition_of short = running_transition_short volatile volatile.proposing transition_of short

  -- ---- published definitions are sent

  reported_of_short : (s : ℕ) (d : Option V) → length (reports_of s d) ≤ 1
  unfolding reports_of
  reported_of_short s None = omega arith
  reported_of_short s (Some d) = omega arith

  reported_short : (history : List V) (s : ℕ) → length (reports history s) ≤ 1
  unfolding reports
  reported_short history s = reported_of_short s (definition_at history s)

  reported_from_short : (history : List V) (s count : ℕ) → length (reports_from history s count) ≤ count
  unfolding reports_from
  reported_from_short history s zero = omega arith
  reported_from_short history s (suc count) =
      omega (arith, length-append (reports history s) (reports_from history (suc s) count), reported_short history s, reported_from_short history (suc s) count)

  reported_transition_short : (volatile : VolatileState V) (history : List V) (s : ℕ) → IsShort (only_sends volatile (reports history s))
  reported_transition_short volatile history s = sends_short volatile (reports history s) (omega (arith, reported_short history s))

  -- ---- the acceptor

  module _ (me : ℕ) (stored : DurableState V) (volatile : VolatileState V) (s : ℕ) (b : Ballot) where
    promise_short : IsShort (promise_to me stored volatile s b)
    unfolding promise_to
    promise_short = stores_short volatile _ _

    prepare_open_short : (promise : Option Ballot) (above refused : Bool) → is_above promise b ≡ above → is_rejected promise b ≡ refused →
        IsShort (prepare_open me stored volatile s b promise)
    unfolding prepare_open
    prepare_open_short promise true refused e h = rw e promise_short
    prepare_open_short promise false true e h = rw (e, h) (sends_short volatile (nack me s b promise) (nack_short V me s b promise))
    prepare_open_short promise false false e h = rw (e, h) (quiet_short volatile)

    prepare_short : (is_published : Bool) → nat_le s (published stored) ≡ is_published → IsShort (on_prepare me stored volatile s b)
    unfolding on_prepare
    prepare_short true e = rw e (reported_transition_short volatile stored.history s)
    prepare_short false e = rw e (prepare_open_short stored.promise (is_above stored.promise b) (is_rejected stored.promise b) refl refl)

    vote_short : (d : V) (again : Bool) → votes_at (stored.votes s) b ≡ again → IsShort (vote_for me stored volatile s b d)
    unfolding vote_for
    vote_short d true e = rw e (sends_short volatile (Accepted me s b ∷ []) (omega arith))
    vote_short d false e = rw e (stores_short volatile _ _)

    accept_open_short : (d : V) (promise : Option Ballot) (refused : Bool) → is_rejected promise b ≡ refused → IsShort (accept_open me stored volatile s b d promise)
    unfolding accept_open
    accept_open_short d promise true e = rw e (sends_short volatile (nack me s b promise) (nack_short V me s b promise))
    accept_open_short d promise false e = rw e (vote_short d (votes_at (stored.votes s) b) refl)

    accept_short : (d : V) (is_published : Bool) → nat_le s (published stored) ≡ is_published → IsShort (on_accept me stored volatile s b d)
    unfolding on_accept
    accept_short d true e = rw e (reported_transition_short volatile stored.history s)
    accept_short d false e = rw e (accept_open_short d stored.promise (is_rejected stored.promise b) refl)

  -- ---- the proposer

  begin_short : (me : ℕ) (stored : DurableState V) (own : V) (round : ℕ) → IsShort (begin_at me stored own round)
  unfolding begin_at
  begin_short me stored own round = stores_short _ _ _

  catch_up_short : (stored : DurableState V) (volatile : VolatileState V) (more : Bool) → nat_lt (published stored) last_sequence ≡ more → IsShort (on_catch_up stored volatile)
  unfolding on_catch_up
  catch_up_short stored volatile true e = rw e (sends_short volatile (Ask (next_sequence stored) ∷ []) (omega arith))
  catch_up_short stored volatile false e = rw e (quiet_short volatile)

  ask_short : (leadership : Leadership V) (p : Proposal V) → IsShort (ask_votes leadership p)
  unfolding ask_votes
  ask_short leadership p = sends_short _ _ (omega arith)

  propose_short : (me : ℕ) (stored : DurableState V) (leadership : Option (Leadership V)) (own : V) → IsShort (propose_by me stored leadership own)
  unfolding propose_by lead
  propose_short me stored None own = begin_short me stored own (stored.tried + 1)
  propose_short me stored (Some leadership) own = ask_short leadership _

  promised_short : (n : ℕ) (volatile : VolatileState V) (p : Proposal V) (is_majority : Bool) → is_majority_of (count_nodes n p.responders) n ≡ is_majority → IsShort (promised n volatile p)
  unfolding promised
  promised_short n volatile p true e = rw e (ask_short (leadership_of p) (asking_votes p))
  promised_short n volatile p false e = rw e (quiet_short (with_proposal volatile p))

  promise_by_short : (n : ℕ) (volatile : VolatileState V) (p : Proposal V) (is_first_response : Bool) → IsShort (cond is_first_response (promised n volatile p) (quiet volatile))
  promise_by_short n volatile p true = promised_short n volatile p (is_majority_of (count_nodes n p.responders) n) refl
  promise_by_short n volatile p false = quiet_short volatile

  promises_short : (n : ℕ) (volatile : VolatileState V) (sender s : ℕ) (b : Ballot) (votes : List (Option (Vote V))) → IsShort (on_promise n volatile sender s b votes)
  unfolding on_promise
  promises_short n volatile sender s b votes =
      when_running_short volatile _ (λ p. promise_by_short n volatile (with_promise p sender votes) (is_new_response n p Preparing sender s b))

  either_short : (first second : VolatileState V) (is_first : Bool) → IsShort (cond is_first (quiet first) (quiet second))
  either_short first second true = quiet_short first
  either_short first second false = quiet_short second

  nacks_short : (volatile : VolatileState V) (s : ℕ) (b promise : Ballot) → IsShort (on_nack volatile s b promise)
  unfolding on_nack
  nacks_short volatile s b promise = when_running_short volatile _ (λ p. either_short _ volatile (is_at p s b))

module _ {V : Type 0} (same : V → V → Bool) where
  voted_short : (n : ℕ) (volatile : VolatileState V) (p : Proposal V) (is_majority : Bool) → is_majority_of (count_nodes n p.responders) n ≡ is_majority → IsShort (voted same n volatile p)
  unfolding voted
  voted_short n volatile p true e = rw e (stores_short _ _ _)
  voted_short n volatile p false e = rw e (quiet_short (with_proposal volatile p))

  vote_by_short : (n : ℕ) (volatile : VolatileState V) (p : Proposal V) (is_first_response : Bool) → IsShort (cond is_first_response (voted same n volatile p) (quiet volatile))
  vote_by_short n volatile p true = voted_short n volatile p (is_majority_of (count_nodes n p.responders) n) refl
  vote_by_short n volatile p false = quiet_short volatile

  votes_short : (n : ℕ) (volatile : VolatileState V) (sender s : ℕ) (b : Ballot) → IsShort (on_accepted same n volatile sender s b)
  unfolding on_accepted
  votes_short n volatile sender s b = when_running_short volatile _ (λ p. vote_by_short n volatile (with_vote p sender) (is_new_response n p Accepting sender s b))

  chosen_short : (stored : DurableState V) (volatile : VolatileState V) (s : ℕ) (d : V) (is_next is_ahead : Bool) → (s == next_sequence stored) ≡ is_next → nat_lt (next_sequence stored) s ≡ is_ahead →
      IsShort (on_chosen same stored volatile s d)
  unfolding on_chosen
  chosen_short stored volatile s d true is_ahead e h = rw e (omega arith)
  chosen_short stored volatile s d false true e h = rw (e, h) (sends_short volatile (Ask (next_sequence stored) ∷ []) (omega arith))
  chosen_short stored volatile s d false false e h = rw (e, h) (quiet_short volatile)

  -- ---- the table

  message_short : (n me : ℕ) (stored : DurableState V) (volatile : VolatileState V) (message : Message V) → IsShort (on_message same n me stored volatile message)
  unfolding on_message on_ask
  message_short n me stored volatile (Prepare s b) = prepare_short me stored volatile s b (nat_le s (published stored)) refl
  message_short n me stored volatile (Promise sender s b votes) = promises_short n volatile sender s b votes
  message_short n me stored volatile (Accept s b d) = accept_short me stored volatile s b d (nat_le s (published stored)) refl
  message_short n me stored volatile (Accepted sender s b) = votes_short n volatile sender s b
  message_short n me stored volatile (Nack sender s b promise) = nacks_short volatile s b promise
  message_short n me stored volatile (Chosen s d) = chosen_short stored volatile s d (s == next_sequence stored) (nat_lt (next_sequence stored) s) refl refl
  message_short n me stored volatile (Ask s) = sends_short volatile (reports_from stored.history s most_reports) (reported_from_short stored.history s most_reports)

  retry_short : (me : ℕ) (stored : DurableState V) (volatile : VolatileState V) → IsShort (on_retry me stored volatile)
  unfolding on_retry
  retry_short me stored volatile =
      when_running_short volatile (λ p. begin_at me stored p.own (round_known stored p + 1)) (λ p. begin_short me stored p.own (round_known stored p + 1))

  transition_short : (n me : ℕ) (stored : DurableState V) (volatile : VolatileState V) (input : Input V) → IsShort (transition same n me stored volatile input)
  unfolding transition on_propose
  transition_short n me stored volatile (Propose d) = propose_short me stored (leading_at volatile.leadership (next_sequence stored)) d
  transition_short n me stored volatile Retry = retry_short me stored volatile
  transition_short n me stored volatile CatchUp = catch_up_short stored volatile (nat_lt (published stored) last_sequence) refl
  transition_short n me stored volatile (Deliver message) = message_short n me stored volatile message

pub transitions_are_short : (V : Type 0) → TransitionsAreShort V
transitions_are_short V = λ same n me stored volatile input. transition_short same n me stored volatile input
