-- Each transition's record fits its node's stored state.
use Rattle.std.proofs.Common.{◌≡◌, ℕ, ◌+◌, ◌==◌, nat_lt, nat_le, max, Bool, true, false, cond, List, [], ◌∷◌, Option, Some, None, refl, sym, subst, eq-eqb}
use Rattle.wf_ballot.specs.Ballot.{Ballot}
use Rattle.wf_ballot.specs.Majority.{count_nodes, is_majority_of}
use Rattle.wf_ballot.specs.Sequence.{last_sequence}
use Rattle.wf_model.specs.Message.{Vote, Message, Prepare, Promise, Accept, Accepted, Nack, Chosen, Ask}
use Rattle.wf_model.specs.DurableState as stored_part
use Rattle.wf_model.specs.DurableState.{DurableState, Promised, Published, published, next_sequence, with_record, fits}
use Rattle.wf_model.specs.VolatileState.{Proposal, Proposing, Idle, Running, Won, Overtaken, Leadership, VolatileState, Preparing, Accepting, proposed, is_at, leading_at}
use Rattle.wf_model.specs.Table.{Transition, Input, Propose, Retry, CatchUp, Deliver, store, quiet, only_sends, stores, running_transition, when_running, with_proposal, round_known, begin_at, ask_votes, lead, propose_by, on_propose, on_retry, on_catch_up, reports, reports_from, on_ask, most_reports, is_above, is_rejected, nack, promise_to, prepare_open, on_prepare, votes_at, vote_for, accept_open, on_accept, is_new_response, with_promise, asking_votes, promised, on_promise, with_vote, on_nack, ended, ends, after_publishing, voted, on_accepted, on_chosen, on_message, transition}
use Rattle.wf_model.specs.Fits.{IsForNext, TransitionFits, RecordsFit}

module _ {V : Type 0} (stored : DurableState V) where
  -- ---- the forms of a transition

  quiet_fits : (volatile : VolatileState V) → IsForNext stored volatile.proposing → TransitionFits stored (quiet volatile)
  unfolding quiet store
  quiet_fits volatile next = record { fits = tt; for_next = next }

  sends_fits : (volatile : VolatileState V) (messages : List (Message V)) → IsForNext stored volatile.proposing → TransitionFits stored (only_sends volatile messages)
  unfolding only_sends store
  sends_fits volatile messages next = record { fits = tt; for_next = next }

  -- the transition of a proposal, which only a running one has
  running_transition_fits : (volatile : VolatileState V) (proposing : Proposing V) (transition_of : Proposal V → Transition V) → IsForNext stored volatile.proposing → IsForNext stored proposing →
      ((p : Proposal V) → p.sequence ≡ next_sequence stored → TransitionFits stored (transition_of p)) → TransitionFits stored (running_transition volatile proposing transition_of)
  running_transition_fits volatile Idle transition_of known next fit = quiet_fits volatile known
  running_transition_fits volatile (Running p) transition_of known next fit = fit p next
  running_transition_fits volatile (Won s) transition_of known next fit = quiet_fits volatile known
  running_transition_fits volatile (Overtaken s) transition_of known next fit = quiet_fits volatile known

  when_running_fits : (volatile : VolatileState V) (transition_of : Proposal V → Transition V) → IsForNext stored volatile.proposing →
      ((p : Proposal V) → p.sequence ≡ next_sequence stored → TransitionFits stored (transition_of p)) → TransitionFits stored (when_running volatile transition_of)
  when_running_fits volatile transition_of next fit = running_transition_fits volatile volatile.proposing transition_of next next fit

  -- a record of a promise or a vote publishes nothing
  promised_stays : (s : ℕ) (b : Ballot) → published (with_record stored (Promised s b)) ≡ published stored
  unfolding with_record published
  promised_stays s b = refl

  accepted_stays : (s : ℕ) (b : Ballot) (d : V) (is_open : Bool) → nat_lt (published stored) s ≡ is_open →
      published (with_record stored (stored_part.Accepted s b d)) ≡ published stored
  unfolding with_record published
  accepted_stays s b d true e = rw e refl
  accepted_stays s b d false e = rw e refl

  still_next : (after : DurableState V) (proposing : Proposing V) → published after ≡ published stored → IsForNext stored proposing → IsForNext after proposing
  unfolding next_sequence
  still_next after Idle e next = tt
  still_next after (Running p) e next = subst (λ k. p.sequence ≡ k + 1) (sym e) next
  still_next after (Won s) e next = tt
  still_next after (Overtaken s) e next = tt

  -- ---- the acceptor

  promise_fits : (me : ℕ) (volatile : VolatileState V) (s : ℕ) (b : Ballot) → IsForNext stored volatile.proposing → TransitionFits stored (promise_to me stored volatile s b)
  unfolding promise_to stores store fits
  promise_fits me volatile s b next = record {
    fits = refl;
    for_next = still_next (with_record stored (Promised s b)) volatile.proposing (promised_stays s b) next;
  }

  prepare_open_fits : (me : ℕ) (volatile : VolatileState V) (s : ℕ) (b : Ballot) (promise : Option Ballot) (above refused : Bool) → IsForNext stored volatile.proposing →
      is_above promise b ≡ above → is_rejected promise b ≡ refused → TransitionFits stored (prepare_open me stored volatile s b promise)
  unfolding prepare_open
  prepare_open_fits me volatile s b promise true refused next e h = rw e (promise_fits me volatile s b next)
  prepare_open_fits me volatile s b promise false true next e h = rw (e, h) (sends_fits volatile (nack me s b promise) next)
  prepare_open_fits me volatile s b promise false false next e h = rw (e, h) (quiet_fits volatile next)

  prepare_fits : (me : ℕ) (volatile : VolatileState V) (s : ℕ) (b : Ballot) (is_published : Bool) → IsForNext stored volatile.proposing → nat_le s (published stored) ≡ is_published →
      TransitionFits stored (on_prepare me stored volatile s b)
  unfolding on_prepare
  prepare_fits me volatile s b true next e = rw e (sends_fits volatile (reports stored.history s) next)
  prepare_fits me volatile s b false next e = rw e (prepare_open_fits me volatile s b stored.promise (is_above stored.promise b) (is_rejected stored.promise b) next refl refl)

  vote_fits : (me : ℕ) (volatile : VolatileState V) (s : ℕ) (b : Ballot) (d : V) (again : Bool) → IsForNext stored volatile.proposing → votes_at (stored.votes s) b ≡ again →
      TransitionFits stored (vote_for me stored volatile s b d)
  unfolding vote_for stores store fits
  vote_fits me volatile s b d true next e = rw e (sends_fits volatile (Accepted me s b ∷ []) next)
  vote_fits me volatile s b d false next e = rw e (record {
    fits = refl;
    for_next = still_next (with_record stored (stored_part.Accepted s b d)) volatile.proposing (accepted_stays s b d (nat_lt (published stored) s) refl) next;
  })

  accept_open_fits : (me : ℕ) (volatile : VolatileState V) (s : ℕ) (b : Ballot) (d : V) (promise : Option Ballot) (refused : Bool) → IsForNext stored volatile.proposing →
      is_rejected promise b ≡ refused → TransitionFits stored (accept_open me stored volatile s b d promise)
  unfolding accept_open
  accept_open_fits me volatile s b d promise true next e = rw e (sends_fits volatile (nack me s b promise) next)
  accept_open_fits me volatile s b d promise false next e = rw e (vote_fits me volatile s b d (votes_at (stored.votes s) b) next refl)

  accept_fits : (me : ℕ) (volatile : VolatileState V) (s : ℕ) (b : Ballot) (d : V) (is_published : Bool) → IsForNext stored volatile.proposing → nat_le s (published stored) ≡ is_published →
      TransitionFits stored (on_accept me stored volatile s b d)
  unfolding on_accept
  accept_fits me volatile s b d true next e = rw e (sends_fits volatile (reports stored.history s) next)
  accept_fits me volatile s b d false next e = rw e (accept_open_fits me volatile s b d stored.promise (is_rejected stored.promise b) next refl)

  -- ---- the proposer

  begin_fits : (me : ℕ) (own : V) (round : ℕ) → TransitionFits stored (begin_at me stored own round)
  unfolding begin_at stores store fits with_record next_sequence published
  begin_fits me own round = record { fits = refl; for_next = refl }

  retry_fits : (me : ℕ) (volatile : VolatileState V) → IsForNext stored volatile.proposing → TransitionFits stored (on_retry me stored volatile)
  unfolding on_retry
  retry_fits me volatile next =
      when_running_fits volatile (λ p. begin_at me stored p.own (round_known stored p + 1)) next (λ p _. begin_fits me p.own (round_known stored p + 1))

  catch_up_fits : (volatile : VolatileState V) (more : Bool) → IsForNext stored volatile.proposing → nat_lt (published stored) last_sequence ≡ more → TransitionFits stored (on_catch_up stored volatile)
  unfolding on_catch_up
  catch_up_fits volatile true next e = rw e (sends_fits volatile (Ask (next_sequence stored) ∷ []) next)
  catch_up_fits volatile false next e = rw e (quiet_fits volatile next)

  propose_fits : (me : ℕ) (leadership : Option (Leadership V)) (own : V) → TransitionFits stored (propose_by me stored leadership own)
  unfolding propose_by lead ask_votes only_sends store
  propose_fits me None own = begin_fits me own (stored.tried + 1)
  propose_fits me (Some leadership) own = record { fits = tt; for_next = refl }

  promised_fits : (n : ℕ) (volatile : VolatileState V) (p : Proposal V) (is_majority : Bool) → p.sequence ≡ next_sequence stored →
      is_majority_of (count_nodes n p.responders) n ≡ is_majority → TransitionFits stored (promised n volatile p)
  unfolding promised ask_votes asking_votes with_proposal only_sends store
  promised_fits n volatile p true next e = rw e (record { fits = tt; for_next = next })
  promised_fits n volatile p false next e = rw e (quiet_fits (with_proposal volatile p) next)

  promise_by : (n : ℕ) (volatile : VolatileState V) (p : Proposal V) (sender : ℕ) (votes : List (Option (Vote V))) (is_first_response : Bool) → IsForNext stored volatile.proposing →
      p.sequence ≡ next_sequence stored →
      TransitionFits stored (cond is_first_response (promised n volatile (with_promise p sender votes)) (quiet volatile))
  unfolding with_promise
  promise_by n volatile p sender votes true known next =
      let q : Proposal V = with_promise p sender votes in
      promised_fits n volatile q (is_majority_of (count_nodes n q.responders) n) next refl
  promise_by n volatile p sender votes false known next = quiet_fits volatile known

  promises_fit : (n : ℕ) (volatile : VolatileState V) (sender s : ℕ) (b : Ballot) (votes : List (Option (Vote V))) → IsForNext stored volatile.proposing →
      TransitionFits stored (on_promise n volatile sender s b votes)
  unfolding on_promise
  promises_fit n volatile sender s b votes known =
      when_running_fits volatile _ known (λ p next. promise_by n volatile p sender votes (is_new_response n p Preparing sender s b) known next)

  nack_by : (volatile : VolatileState V) (p : Proposal V) (q : Ballot) (is_its : Bool) → IsForNext stored volatile.proposing → p.sequence ≡ next_sequence stored →
      TransitionFits stored (cond is_its (quiet (with_proposal volatile (record p { seen = max p.seen q.round }))) (quiet volatile))
  unfolding with_proposal
  nack_by volatile p q true known next = quiet_fits (with_proposal volatile (record p { seen = max p.seen q.round })) next
  nack_by volatile p q false known next = quiet_fits volatile known

  nacks_fit : (volatile : VolatileState V) (s : ℕ) (b q : Ballot) → IsForNext stored volatile.proposing → TransitionFits stored (on_nack volatile s b q)
  unfolding on_nack
  nacks_fit volatile s b q known = when_running_fits volatile _ known (λ p next. nack_by volatile p q (is_at p s b) known next)

  -- ---- what publishes

  module _ (same : V → V → Bool) where
    ends_by : (after : DurableState V) (s : ℕ) (is_own : Bool) → IsForNext after (cond is_own (Won s) (Overtaken s))
    ends_by after s true = tt
    ends_by after s false = tt

    ended_fits : (after : DurableState V) (p : Proposal V) (d : V) → IsForNext after (ended same p d)
    unfolding ended
    ended_fits after p d = ends_by after p.sequence (same p.own d)

    ends_fits : (after : DurableState V) (proposing : Proposing V) (d : V) → IsForNext after (ends same proposing d)
    unfolding ends
    ends_fits after Idle d = tt
    ends_fits after (Running p) d = ended_fits after p d
    ends_fits after (Won s) d = tt
    ends_fits after (Overtaken s) d = tt

    voted_fits : (n : ℕ) (volatile : VolatileState V) (p : Proposal V) (is_majority : Bool) → p.sequence ≡ next_sequence stored →
        is_majority_of (count_nodes n p.responders) n ≡ is_majority → TransitionFits stored (voted same n volatile p)
    unfolding voted with_proposal stores store fits
    voted_fits n volatile p true next e = rw e (record {
      fits = eq-eqb p.sequence (next_sequence stored) next;
      for_next = ended_fits (with_record stored (Published p.sequence (proposed p))) p (proposed p);
    })
    voted_fits n volatile p false next e = rw e (quiet_fits (with_proposal volatile p) next)

    vote_by : (n : ℕ) (volatile : VolatileState V) (p : Proposal V) (sender : ℕ) (is_first_response : Bool) → IsForNext stored volatile.proposing → p.sequence ≡ next_sequence stored →
        TransitionFits stored (cond is_first_response (voted same n volatile (with_vote p sender)) (quiet volatile))
    unfolding with_vote
    vote_by n volatile p sender true known next =
        let q : Proposal V = with_vote p sender in
        voted_fits n volatile q (is_majority_of (count_nodes n q.responders) n) next refl
    vote_by n volatile p sender false known next = quiet_fits volatile known

    votes_fit : (n : ℕ) (volatile : VolatileState V) (sender s : ℕ) (b : Ballot) → IsForNext stored volatile.proposing → TransitionFits stored (on_accepted same n volatile sender s b)
    unfolding on_accepted
    votes_fit n volatile sender s b known =
        when_running_fits volatile _ known (λ p next. vote_by n volatile p sender (is_new_response n p Accepting sender s b) known next)

    chosen_fits : (volatile : VolatileState V) (s : ℕ) (d : V) (is_next is_later : Bool) → IsForNext stored volatile.proposing → (s == next_sequence stored) ≡ is_next →
        nat_lt (next_sequence stored) s ≡ is_later → TransitionFits stored (on_chosen same stored volatile s d)
    unfolding on_chosen after_publishing store fits
    chosen_fits volatile s d true is_later next e h = rw e (record { fits = e; for_next = ends_fits (with_record stored (Published s d)) volatile.proposing d })
    chosen_fits volatile s d false true next e h = rw (e, h) (sends_fits volatile (Ask (next_sequence stored) ∷ []) next)
    chosen_fits volatile s d false false next e h = rw (e, h) (quiet_fits volatile next)

    -- ---- the table

    message_fits : (n me : ℕ) (volatile : VolatileState V) (m : Message V) → IsForNext stored volatile.proposing → TransitionFits stored (on_message same n me stored volatile m)
    unfolding on_message on_ask
    message_fits n me volatile (Prepare s b) next = prepare_fits me volatile s b (nat_le s (published stored)) next refl
    message_fits n me volatile (Promise sender s b votes) next = promises_fit n volatile sender s b votes next
    message_fits n me volatile (Accept s b d) next = accept_fits me volatile s b d (nat_le s (published stored)) next refl
    message_fits n me volatile (Accepted sender s b) next = votes_fit n volatile sender s b next
    message_fits n me volatile (Nack sender s b q) next = nacks_fit volatile s b q next
    message_fits n me volatile (Chosen s d) next = chosen_fits volatile s d (s == next_sequence stored) (nat_lt (next_sequence stored) s) next refl refl
    message_fits n me volatile (Ask s) next = sends_fits volatile (reports_from stored.history s most_reports) next

    pub transition_fits : (n me : ℕ) (volatile : VolatileState V) (input : Input V) → IsForNext stored volatile.proposing → TransitionFits stored (transition same n me stored volatile input)
    unfolding transition on_propose
    transition_fits n me volatile (Propose d) next = propose_fits me (leading_at volatile.leadership (next_sequence stored)) d
    transition_fits n me volatile Retry next = retry_fits me volatile next
    transition_fits n me volatile CatchUp next = catch_up_fits volatile (nat_lt (published stored) last_sequence) next refl
    transition_fits n me volatile (Deliver m) next = message_fits n me volatile m next

pub records_fit : (V : Type 0) → RecordsFit V
records_fit V = λ same n me stored volatile input next. transition_fits stored same n me volatile input next
