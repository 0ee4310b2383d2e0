-- A node says that a definition is chosen only if it has published it: it reports its own history,
-- or publishes what a majority voted for, by the step that says so.
use Rattle.std.proofs.Common.{◌≡◌, ℕ, zero, suc, ◌+◌, ◌==◌, nat_lt, nat_le, max, Bool, true, false, cond, List, [], ◌∷◌, ◌++◌, Option, Some, None, refl, sym, subst, inl, inr}
use Rattle.std.specs.Prelude.{⊤}
use Rattle.wf_ballot.specs.Ballot.{Ballot}
use Rattle.wf_ballot.specs.Majority.{count_nodes, is_majority_of}
use Rattle.wf_ballot.specs.Sequence.{last_sequence}
use Rattle.wf_model.specs.Chosen.{IsIn}
use Rattle.wf_model.specs.Message.{Vote, Message, Prepare, Promise, Accept, Accepted, Nack, Chosen, Ask}
use Rattle.wf_model.specs.DurableState as stored_part
use Rattle.wf_model.specs.DurableState.{DurableState, Record, Published, published, next_sequence, definition_at, with_record}
use Rattle.wf_model.specs.Fits.{IsForNext}
use Rattle.wf_model.specs.VolatileState.{Proposal, Proposing, Idle, Running, Won, Overtaken, Leadership, VolatileState, Preparing, Accepting, proposed, is_at, leading_at}
use Rattle.wf_model.specs.Table.{Transition, Input, Propose, Retry, CatchUp, Deliver, store, quiet, only_sends, stores, running_transition, when_running, with_proposal, round_known, begin_at, ask_votes, lead, propose_by, on_propose, on_retry, on_catch_up, reports_of, reports, reports_from, on_ask, most_reports, is_above, is_rejected, nack, promise_to, prepare_open, on_prepare, votes_at, vote_for, accept_open, on_accept, is_new_response, with_promise, asking_votes, promised, on_promise, with_vote, on_nack, voted, on_accepted, on_chosen, on_message, transition}
use Rattle.wf_rejoin_guard.proofs.Lists.{last_at}

-- what the message says is published, is in the list
abbrev pub IsHad : {V : Type 0} → List V → Message V → Type 0
IsHad history (Prepare s b) = ⊤
IsHad history (Promise i s b votes) = ⊤
IsHad history (Accept s b d) = ⊤
IsHad history (Accepted i s b) = ⊤
IsHad history (Nack i s b q) = ⊤
IsHad history (Chosen s d) = definition_at history s ≡ Some d
IsHad history (Ask s) = ⊤

abbrev pub AreHad : {V : Type 0} → List V → List (Message V) → Type 0
AreHad history [] = ⊤
AreHad history (m ∷ messages) = IsHad history m × AreHad history messages

-- after the transition, its node has published what it says is published
abbrev pub SaysItsOwn : {V : Type 0} → DurableState V → Transition V → Type 0
SaysItsOwn stored the_transition = AreHad (store stored the_transition.entry).history the_transition.messages

module _ {V : Type 0} (history : List V) where
  one_had : (m n : Message V) → m ≡ n → IsHad history n → IsHad history m
  one_had m n same had = subst (IsHad history) (sym same) had

  pub had_in : (m : Message V) (messages : List (Message V)) → AreHad history messages → IsIn m messages → IsHad history m
  had_in m [] had is_in = absurd is_in
  had_in m (first ∷ messages) had (inl same) = one_had m first same had.0
  had_in m (first ∷ messages) had (inr is_in) = had_in m messages had.1 is_in

  both_had : (xs ys : List (Message V)) → AreHad history xs → AreHad history ys → AreHad history (xs ++ ys)
  both_had [] ys had also = also
  both_had (x ∷ xs) ys had also = (had.0, both_had xs ys had.1 also)

  report_had : (s : ℕ) (found : Option V) → definition_at history s ≡ found → AreHad history (reports_of s found)
  unfolding reports_of
  report_had s None at = tt
  report_had s (Some d) at = (at, tt)

  reports_had : (s : ℕ) → AreHad history (reports history s)
  unfolding reports
  reports_had s = report_had s (definition_at history s) refl

  all_had : (s count : ℕ) → AreHad history (reports_from history s count)
  unfolding reports_from
  all_had s zero = tt
  all_had s (suc count) = both_had (reports history s) (reports_from history (suc s) count) (reports_had s) (all_had (suc s) count)

  nack_had : (me s : ℕ) (b : Ballot) (promise : Option Ballot) → AreHad history (nack me s b promise)
  nack_had me s b None = tt
  nack_had me s b (Some promise) = (tt, tt)

module _ {V : Type 0} (stored : DurableState V) where
  -- ---- the forms of a transition

  quiet_own : (volatile : VolatileState V) → SaysItsOwn stored (quiet volatile)
  unfolding quiet store
  quiet_own volatile = tt

  sends_own : (volatile : VolatileState V) (messages : List (Message V)) → AreHad stored.history messages → SaysItsOwn stored (only_sends volatile messages)
  unfolding only_sends store
  sends_own volatile messages had = had

  stores_own : (volatile : VolatileState V) (r : Record V) (m : Message V) → IsHad (with_record stored r).history m → SaysItsOwn stored (stores volatile r m)
  unfolding stores store
  stores_own volatile r m had = (had, tt)

  -- the transition of a proposal, which only a running one has
  running_own : (volatile : VolatileState V) (proposing : Proposing V) (transition_of : Proposal V → Transition V) → IsForNext stored proposing →
      ((p : Proposal V) → p.sequence ≡ next_sequence stored → SaysItsOwn stored (transition_of p)) → SaysItsOwn stored (running_transition volatile proposing transition_of)
  running_own volatile Idle transition_of next own = quiet_own volatile
  running_own volatile (Running p) transition_of next own = own p next
  running_own volatile (Won s) transition_of next own = quiet_own volatile
  running_own volatile (Overtaken s) transition_of next own = quiet_own volatile

  when_own : (volatile : VolatileState V) (transition_of : Proposal V → Transition V) → IsForNext stored volatile.proposing →
      ((p : Proposal V) → p.sequence ≡ next_sequence stored → SaysItsOwn stored (transition_of p)) → SaysItsOwn stored (when_running volatile transition_of)
  when_own volatile transition_of next own = running_own volatile volatile.proposing transition_of next own

  -- ---- the acceptor

  prepare_open_own : (me : ℕ) (volatile : VolatileState V) (s : ℕ) (b : Ballot) (promise : Option Ballot) (above refused : Bool) → is_above promise b ≡ above → is_rejected promise b ≡ refused →
      SaysItsOwn stored (prepare_open me stored volatile s b promise)
  unfolding prepare_open promise_to
  prepare_open_own me volatile s b promise true refused e h = rw e (stores_own volatile _ _ tt)
  prepare_open_own me volatile s b promise false true e h = rw (e, h) (sends_own volatile (nack me s b promise) (nack_had stored.history me s b promise))
  prepare_open_own me volatile s b promise false false e h = rw (e, h) (quiet_own volatile)

  prepare_own : (me : ℕ) (volatile : VolatileState V) (s : ℕ) (b : Ballot) (is_published : Bool) → nat_le s (published stored) ≡ is_published → SaysItsOwn stored (on_prepare me stored volatile s b)
  unfolding on_prepare
  prepare_own me volatile s b true e = rw e (sends_own volatile (reports stored.history s) (reports_had stored.history s))
  prepare_own me volatile s b false e = rw e (prepare_open_own me volatile s b stored.promise (is_above stored.promise b) (is_rejected stored.promise b) refl refl)

  vote_own : (me : ℕ) (volatile : VolatileState V) (s : ℕ) (b : Ballot) (d : V) (again : Bool) → votes_at (stored.votes s) b ≡ again → SaysItsOwn stored (vote_for me stored volatile s b d)
  unfolding vote_for
  vote_own me volatile s b d true e = rw e (sends_own volatile (Accepted me s b ∷ []) (tt, tt))
  vote_own me volatile s b d false e = rw e (stores_own volatile (stored_part.Accepted s b d) (Accepted me s b) tt)

  accept_open_own : (me : ℕ) (volatile : VolatileState V) (s : ℕ) (b : Ballot) (d : V) (promise : Option Ballot) (refused : Bool) → is_rejected promise b ≡ refused →
      SaysItsOwn stored (accept_open me stored volatile s b d promise)
  unfolding accept_open
  accept_open_own me volatile s b d promise true e = rw e (sends_own volatile (nack me s b promise) (nack_had stored.history me s b promise))
  accept_open_own me volatile s b d promise false e = rw e (vote_own me volatile s b d (votes_at (stored.votes s) b) refl)

  accept_own : (me : ℕ) (volatile : VolatileState V) (s : ℕ) (b : Ballot) (d : V) (is_published : Bool) → nat_le s (published stored) ≡ is_published → SaysItsOwn stored (on_accept me stored volatile s b d)
  unfolding on_accept
  accept_own me volatile s b d true e = rw e (sends_own volatile (reports stored.history s) (reports_had stored.history s))
  accept_own me volatile s b d false e = rw e (accept_open_own me volatile s b d stored.promise (is_rejected stored.promise b) refl)

  -- ---- the proposer

  begin_own : (me : ℕ) (own : V) (round : ℕ) → SaysItsOwn stored (begin_at me stored own round)
  unfolding begin_at
  begin_own me own round = stores_own _ _ _ tt

  retry_own : (me : ℕ) (volatile : VolatileState V) → IsForNext stored volatile.proposing → SaysItsOwn stored (on_retry me stored volatile)
  unfolding on_retry
  retry_own me volatile next = when_own volatile (λ p. begin_at me stored p.own (round_known stored p + 1)) next (λ p _. begin_own me p.own (round_known stored p + 1))

  catch_up_own : (volatile : VolatileState V) (more : Bool) → nat_lt (published stored) last_sequence ≡ more → SaysItsOwn stored (on_catch_up stored volatile)
  unfolding on_catch_up
  catch_up_own volatile true e = rw e (sends_own volatile (Ask (next_sequence stored) ∷ []) (tt, tt))
  catch_up_own volatile false e = rw e (quiet_own volatile)

  ask_own : (leadership : Leadership V) (p : Proposal V) → SaysItsOwn stored (ask_votes leadership p)
  unfolding ask_votes
  ask_own leadership p = sends_own _ _ (tt, tt)

  propose_own : (me : ℕ) (leadership : Option (Leadership V)) (own : V) → SaysItsOwn stored (propose_by me stored leadership own)
  unfolding propose_by lead
  propose_own me None own = begin_own me own (stored.tried + 1)
  propose_own me (Some leadership) own = ask_own leadership _

  promised_own : (n : ℕ) (volatile : VolatileState V) (p : Proposal V) (is_majority : Bool) → is_majority_of (count_nodes n p.responders) n ≡ is_majority → SaysItsOwn stored (promised n volatile p)
  unfolding promised
  promised_own n volatile p true e = rw e (ask_own _ (asking_votes p))
  promised_own n volatile p false e = rw e (quiet_own (with_proposal volatile p))

  promise_by : (n : ℕ) (volatile : VolatileState V) (p : Proposal V) (sender : ℕ) (votes : List (Option (Vote V))) (is_first_response : Bool) →
      SaysItsOwn stored (cond is_first_response (promised n volatile (with_promise p sender votes)) (quiet volatile))
  promise_by n volatile p sender votes true = promised_own n volatile (with_promise p sender votes) (is_majority_of (count_nodes n (with_promise p sender votes).responders) n) refl
  promise_by n volatile p sender votes false = quiet_own volatile

  promises_own : (n : ℕ) (volatile : VolatileState V) (sender s : ℕ) (b : Ballot) (votes : List (Option (Vote V))) → IsForNext stored volatile.proposing →
      SaysItsOwn stored (on_promise n volatile sender s b votes)
  unfolding on_promise
  promises_own n volatile sender s b votes known = when_own volatile _ known (λ p next. promise_by n volatile p sender votes (is_new_response n p Preparing sender s b))

  nack_by : (volatile : VolatileState V) (p : Proposal V) (q : Ballot) (is_its : Bool) →
      SaysItsOwn stored (cond is_its (quiet (with_proposal volatile (record p { seen = max p.seen q.round }))) (quiet volatile))
  nack_by volatile p q true = quiet_own _
  nack_by volatile p q false = quiet_own volatile

  nacks_own : (volatile : VolatileState V) (s : ℕ) (b q : Ballot) → IsForNext stored volatile.proposing → SaysItsOwn stored (on_nack volatile s b q)
  unfolding on_nack
  nacks_own volatile s b q known = when_own volatile _ known (λ p next. nack_by volatile p q (is_at p s b))

  -- ---- what publishes

  published_at : (s : ℕ) (d : V) → s ≡ next_sequence stored → definition_at (with_record stored (Published s d)).history s ≡ Some d
  unfolding with_record next_sequence published
  published_at s d next = last_at stored.history s d next

  module _ (same : V → V → Bool) where
    voted_own : (n : ℕ) (volatile : VolatileState V) (p : Proposal V) (is_majority : Bool) → p.sequence ≡ next_sequence stored →
        is_majority_of (count_nodes n p.responders) n ≡ is_majority → SaysItsOwn stored (voted same n volatile p)
    unfolding voted
    voted_own n volatile p true next e = rw e (stores_own _ (Published p.sequence (proposed p)) (Chosen p.sequence (proposed p)) (published_at p.sequence (proposed p) next))
    voted_own n volatile p false next e = rw e (quiet_own (with_proposal volatile p))

    vote_by : (n : ℕ) (volatile : VolatileState V) (p : Proposal V) (sender : ℕ) (is_first_response : Bool) → p.sequence ≡ next_sequence stored →
        SaysItsOwn stored (cond is_first_response (voted same n volatile (with_vote p sender)) (quiet volatile))
    unfolding with_vote
    vote_by n volatile p sender true next =
        let q : Proposal V = with_vote p sender in
        voted_own n volatile q (is_majority_of (count_nodes n q.responders) n) next refl
    vote_by n volatile p sender false next = quiet_own volatile

    votes_own : (n : ℕ) (volatile : VolatileState V) (sender s : ℕ) (b : Ballot) → IsForNext stored volatile.proposing → SaysItsOwn stored (on_accepted same n volatile sender s b)
    unfolding on_accepted
    votes_own n volatile sender s b known = when_own volatile _ known (λ p next. vote_by n volatile p sender (is_new_response n p Accepting sender s b) next)

    chosen_own : (volatile : VolatileState V) (s : ℕ) (d : V) (is_next is_later : Bool) → (s == next_sequence stored) ≡ is_next → nat_lt (next_sequence stored) s ≡ is_later →
        SaysItsOwn stored (on_chosen same stored volatile s d)
    unfolding on_chosen
    chosen_own volatile s d true is_later e h = rw e tt
    chosen_own volatile s d false true e h = rw (e, h) (sends_own volatile (Ask (next_sequence stored) ∷ []) (tt, tt))
    chosen_own volatile s d false false e h = rw (e, h) (quiet_own volatile)

    -- ---- the table

    message_own : (n me : ℕ) (volatile : VolatileState V) (m : Message V) → IsForNext stored volatile.proposing → SaysItsOwn stored (on_message same n me stored volatile m)
    unfolding on_message on_ask
    message_own n me volatile (Prepare s b) next = prepare_own me volatile s b (nat_le s (published stored)) refl
    message_own n me volatile (Promise sender s b votes) next = promises_own n volatile sender s b votes next
    message_own n me volatile (Accept s b d) next = accept_own me volatile s b d (nat_le s (published stored)) refl
    message_own n me volatile (Accepted sender s b) next = votes_own n volatile sender s b next
    message_own n me volatile (Nack sender s b q) next = nacks_own volatile s b q next
    message_own n me volatile (Chosen s d) next = chosen_own volatile s d (s == next_sequence stored) (nat_lt (next_sequence stored) s) refl refl
    message_own n me volatile (Ask s) next = sends_own volatile (reports_from stored.history s most_reports) (all_had stored.history s most_reports)

    pub says_its_own : (n me : ℕ) (volatile : VolatileState V) (input : Input V) → IsForNext stored volatile.proposing → SaysItsOwn stored (transition same n me stored volatile input)
    unfolding transition on_propose
    says_its_own n me volatile (Propose d) next = propose_own me (leading_at volatile.leadership (next_sequence stored)) d
    says_its_own n me volatile Retry next = retry_own me volatile next
    says_its_own n me volatile CatchUp next = catch_up_own volatile (nat_lt (published stored) last_sequence) refl
    says_its_own n me volatile (Deliver m) next = message_own n me volatile m next
