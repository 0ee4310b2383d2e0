-- Of every node each transition's record takes nothing back, and its messages tell no more than is
-- stored by then.
use Rattle.std.proofs.Common.{◌≡◌, ℕ, zero, suc, ◌+◌, ◌-◌, ◌<◌, ◌≤◌, ◌==◌, nat_lt, nat_le, max, cond, Bool, true, false, List, [], ◌∷◌, ◌++◌, length, slice_get, Option, Some, None, refl, sym, subst, length-append, leb-false, lt-ltb, arith}
use Rattle.std.proofs.lemmas.Bool.{false≢true, and_parts, eqb-true}
use Rattle.std.proofs.lemmas.Option.{none-some, same_Some}
use Rattle.wf_ballot.specs.Ballot.{Ballot, below}
use Rattle.wf_ballot.specs.Majority.{count_nodes, is_majority_of}
use Rattle.wf_ballot.specs.OrderTheorems as order
use Rattle.wf_ballot.specs.OrderTheorems.{below-irreflexive}
use Rattle.wf_ballot.specs.Sequence.{last_sequence}
use Rattle.wf_model.specs.Fits.{IsForNext, Fits, TransitionFits, RecordsFit, NotBelow, VotesArePromised}
use Rattle.wf_model.specs.Message.{Vote, Message, Prepare, Promise, Accept, Accepted, Nack, Chosen, Ask}
use Rattle.wf_model.specs.RaisedTheorems.{raised-reached}
use Rattle.wf_model.specs.DurableState as stored_part
use Rattle.wf_model.specs.DurableState.{DurableState, Record, Published, nothing_stored, published, next_sequence, definition_at, put, raised, with_record, fits, fold_from, fold}
use Rattle.wf_model.specs.VolatileState.{Proposal, Proposing, Idle, Running, Won, Overtaken, Leadership, VolatileState, Preparing, Accepting, proposed, same_ballot, is_at, is_in_window, leading_at, at_start}
use Rattle.wf_model.specs.Table.{Transition, Input, Propose, Retry, CatchUp, Deliver, store, quiet, only_sends, stores, running_transition, when_running, with_proposal, round_known, begin_at, ask_votes, lead, propose_by, on_propose, on_retry, on_catch_up, reports_of, reports, reports_from, on_ask, most_reports, is_above, is_rejected, nack, promise_to, prepare_open, on_prepare, votes_at, vote_for, accept_open, on_accept, is_new_response, with_promise, asking_votes, leadership_of, promised, on_promise, with_vote, on_nack, ended, ends, after_publishing, voted, on_accepted, on_chosen, on_message, transition}
use Rattle.wf_model.specs.PutTheorems.{put-same}
use Rattle.wf_folder.specs.Reach.{IsNoLower, IsNoLowerVote, open_vote, raised_vote, vote_below}
use Rattle.wf_folder.specs.declared.reach.HighestVote.{HighestVote}
use Rattle.wf_folder.proofs.Raised.{no_lower_raised, no_lower_self, no_lower_vote_self}
use Rattle.wf_peer.specs.Progress.{IsNoLess, owed}
use Rattle.wf_peer.specs.Reported.{IsHighest, Handled, Occurrence, Restarted, ReportNoMore, ReportsNoMore, RunningNode, StepsReportNoMore, after_all, after_occurrence, node_at_start, progress_of}
use Rattle.wf_peer.specs.declared.progress.Progress.{Progress}
use Rattle.wf_peer.proofs.Kept.{no_less_self}

-- ---- what one message tells

no_lower_of : (held : Option Ballot) (b : Ballot) → NotBelow held b → IsNoLower (Some b) held
no_lower_of None b at = absurd at
no_lower_of (Some p) b at = at

no_lower_cond : (held : Option Ballot) (p b : Ballot) (t : Bool) → NotBelow held b → IsNoLower (Some p) held → IsNoLower (cond t (Some b) (Some p)) held
no_lower_cond held p b true at kept = no_lower_of held b at
no_lower_cond held p b false at kept = kept

raised_no_more : (known held : Option Ballot) (b : Ballot) → NotBelow held b → IsNoLower known held → IsNoLower (raised known b) held
unfolding raised
raised_no_more None held b at kept = no_lower_of held b at
raised_no_more (Some p) held b at kept = no_lower_cond held p b (below p b) at kept

open_by : (v : HighestVote) (claimed : Option HighestVote) (t : Bool) → IsNoLowerVote (Some v) claimed → IsNoLowerVote (cond t (Some v) None) claimed
open_by v claimed true no_lower = no_lower
open_by v claimed false no_lower = tt

open_no_more : (v : HighestVote) (n : ℕ) (claimed : Option HighestVote) → IsNoLowerVote (Some v) claimed → IsNoLowerVote (open_vote (Some v) n) claimed
open_no_more v n claimed no_lower = open_by v claimed (nat_lt n v.sequence) no_lower

vote_by_test : (k v : HighestVote) (n : ℕ) (claimed : Option HighestVote) (t : Bool) → IsNoLowerVote (open_vote (Some k) n) claimed → IsNoLowerVote (Some v) claimed → IsNoLowerVote (open_vote (cond t (Some v) (Some k)) n) claimed
vote_by_test k v n claimed true kept at = open_no_more v n claimed at
vote_by_test k v n claimed false kept at = kept

vote_no_more : (known : Option HighestVote) (v : HighestVote) (n : ℕ) (claimed : Option HighestVote) → IsNoLowerVote (Some v) claimed → IsNoLowerVote (open_vote known n) claimed → IsNoLowerVote (open_vote (raised_vote known v) n) claimed
vote_no_more None v n claimed at kept = open_no_more v n claimed at
vote_no_more (Some k) v n claimed at kept = vote_by_test k v n claimed (vote_below k v) kept at

-- a message whose round was tried, whose ballot is promised, whose vote isn't above the highest, or
-- whose sequence is published tells no more
by_round : (h p : Progress) (r : ℕ) → r ≤ p.round → IsNoLess (owed h p.published) p → IsNoLess (owed (record h { round = max h.round r }) p.published) p
by_round h p r at kept = record { mark = kept.mark; starts = kept.starts; life = kept.life; round = omega (arith, at, kept.round); promise = kept.promise; vote = kept.vote; published = kept.published }

by_promise : (h p : Progress) (b : Ballot) → NotBelow p.promise b → IsNoLess (owed h p.published) p → IsNoLess (owed (record h { promise = raised h.promise b }) p.published) p
by_promise h p b at kept = record { mark = kept.mark; starts = kept.starts; life = kept.life; round = kept.round; promise = raised_no_more h.promise p.promise b at kept.promise; vote = kept.vote; published = kept.published }

by_vote : (h p : Progress) (s : ℕ) (b : Ballot) → NotBelow p.promise b → IsNoLowerVote (Some (record { ballot = b; sequence = s })) p.vote → IsNoLess (owed h p.published) p →
    IsNoLess (owed (record h { promise = raised h.promise b; vote = raised_vote h.vote (record { ballot = b; sequence = s }) }) p.published) p
by_vote h p s b at no_lower kept = record {
  mark = kept.mark;
  starts = kept.starts;
  life = kept.life;
  round = kept.round;
  promise = raised_no_more h.promise p.promise b at kept.promise;
  vote = vote_no_more h.vote (record { ballot = b; sequence = s }) p.published p.vote no_lower kept.vote;
  published = kept.published;
}

by_sequence : (h p : Progress) (s : ℕ) → s ≤ p.published → IsNoLess (owed h p.published) p → IsNoLess (owed (record h { published = max h.published s }) p.published) p
by_sequence h p s at kept = record { mark = kept.mark; starts = kept.starts; life = kept.life; round = kept.round; promise = kept.promise; vote = kept.vote; published = omega (arith, at, kept.published) }

report_both : {V : Type 0} (p : Progress) (a b : List (Message V)) → ReportNoMore p a → ReportNoMore p b → ReportNoMore p (a ++ b)
report_both p [] b of_a of_b = of_b
report_both p (m ∷ a) b (of_m, of_a) of_b = (of_m, report_both p a b of_a of_b)

within : {V : Type 0} (history : List V) (k : ℕ) (d : V) → slice_get history k ≡ Some d → k < length history
within [] k d e = absurd cc
within (x ∷ history) zero d e = omega arith
within (x ∷ history) (suc k) d e = omega (arith, within history k d e)

there : {V : Type 0} (history : List V) (s : ℕ) (d : V) → definition_at history s ≡ Some d → s ≤ length history
unfolding definition_at
there history zero d e = omega arith
there history (suc k) d e = omega (arith, within history k d e)

same_ballot-true : (a b : Ballot) → same_ballot a b ≡ true → a ≡ b
unfolding same_ballot
same_ballot-true a b h =
    let parts : (a.round == b.round ≡ true) × (a.node == b.node ≡ true) = and_parts (a.round == b.round) (a.node == b.node) h in
    order.same_ballot a b (eqb-true a.round b.round parts.0) (eqb-true a.node b.node parts.1)

-- ---- what a running node's volatile state has to do with what it has stored

-- the round of a running proposal's ballot was tried, and that of a leadership's
abbrev IsTriedBy : {V : Type 0} → Proposing V → ℕ → Type 0
IsTriedBy Idle tried = Unit {0}
IsTriedBy (Running proposal) tried = proposal.ballot.round ≤ tried
IsTriedBy (Won s) tried = Unit {0}
IsTriedBy (Overtaken s) tried = Unit {0}

abbrev IsLedBy : {V : Type 0} → Option (Leadership V) → ℕ → Type 0
IsLedBy None tried = Unit {0}
IsLedBy (Some leadership) tried = leadership.ballot.round ≤ tried

record AreTried {V : Type 0} (volatile : VolatileState V) (tried : ℕ) : Type 0 where
  proposing : IsTriedBy volatile.proposing tried
  leadership : IsLedBy volatile.leadership tried

-- The proposal is for the next sequence, the rounds were tried, and no vote is above the promise.
record GoTogether {V : Type 0} (stored : DurableState V) (volatile : VolatileState V) : Type 0 where
  for_next : IsForNext stored volatile.proposing
  rounds : AreTried volatile stored.tried
  promised : (s : ℕ) (vote : Vote V) → stored.votes s ≡ Some vote → NotBelow stored.promise vote.ballot

-- What is shown of each transition: it reports no more, and the rounds of the volatile state after
-- it were tried by then.
record Keeps {V : Type 0} (start : Progress) (stored : DurableState V) (transition : Transition V) : Type 0 where
  reports : ReportsNoMore start stored transition
  rounds : AreTried transition.volatile (store stored transition.entry).tried

module _ {V : Type 0} (start : Progress) (stored : DurableState V) where
  -- ---- the forms of a transition

  quiet_keeps : (volatile : VolatileState V) → AreTried volatile stored.tried → Keeps start stored (quiet volatile)
  unfolding quiet store
  quiet_keeps volatile rounds = record {
    reports = record { grows = λ highest. no_less_self (progress_of start highest stored); reports = λ highest is. tt };
    rounds = rounds;
  }

  sends_keep : (volatile : VolatileState V) (messages : List (Message V)) → AreTried volatile stored.tried →
      ((highest : Option HighestVote) → IsHighest stored highest → ReportNoMore (progress_of start highest stored) messages) → Keeps start stored (only_sends volatile messages)
  unfolding only_sends store
  sends_keep volatile messages rounds no_more = record {
    reports = record { grows = λ highest. no_less_self (progress_of start highest stored); reports = no_more };
    rounds = rounds;
  }

  one_more : (d : V) → length (stored.history ++ d ∷ []) ≡ length stored.history + 1
  one_more d = length-append stored.history (d ∷ [])

  published_keeps : (volatile : VolatileState V) (s : ℕ) (d : V) (messages : List (Message V)) → AreTried volatile stored.tried →
      ((highest : Option HighestVote) → ReportNoMore (progress_of start highest (with_record stored (Published s d))) messages) →
      Keeps start stored (record { entry = Some (Published s d); messages = messages; volatile = volatile })
  unfolding store with_record published
  published_keeps volatile s d messages rounds no_more = record {
    reports = record {
      grows = λ highest. record { mark = refl; starts = omega arith; life = λ same. refl; round = omega arith; promise = no_lower_self stored.promise; vote = no_lower_vote_self highest; published = omega (arith, one_more d) };
      reports = λ highest is. no_more highest;
    };
    rounds = rounds;
  }

  -- ---- published definitions

  reported_of_reports : (highest : Option HighestVote) (s : ℕ) (d : Option V) → definition_at stored.history s ≡ d → ReportNoMore (progress_of start highest stored) (reports_of s d)
  unfolding reports_of published
  reported_of_reports highest s None e = tt
  reported_of_reports highest s (Some d) e = (λ h kept. by_sequence h (progress_of start highest stored) s (there stored.history s d e) kept, tt)

  reported_reports : (highest : Option HighestVote) (s : ℕ) → ReportNoMore (progress_of start highest stored) (reports stored.history s)
  unfolding reports
  reported_reports highest s = reported_of_reports highest s (definition_at stored.history s) refl

  reported_from_reports : (highest : Option HighestVote) (s count : ℕ) → ReportNoMore (progress_of start highest stored) (reports_from stored.history s count)
  unfolding reports_from
  reported_from_reports highest s zero = tt
  reported_from_reports highest s (suc count) = report_both (progress_of start highest stored) (reports stored.history s) (reports_from stored.history (suc s) count) (reported_reports highest s) (reported_from_reports highest (suc s) count)

  ask_reports : (highest : Option HighestVote) → ReportNoMore {V = V} (progress_of start highest stored) (Ask (next_sequence stored) ∷ [])
  unfolding next_sequence
  ask_reports highest = (λ h kept. by_sequence h (progress_of start highest stored) (published stored + 1 - 1) (omega arith) kept, tt)

  -- ---- the acceptor

  nack_reports : (highest : Option HighestVote) (me s : ℕ) (b : Ballot) (promise : Option Ballot) → stored.promise ≡ promise → ReportNoMore {V = V} (progress_of start highest stored) (nack me s b promise)
  nack_reports highest me s b None e = tt
  nack_reports highest me s b (Some p) e =
      let at : NotBelow stored.promise p = subst (λ (o : Option Ballot). NotBelow o p) (sym e) (below-irreflexive p) in
      (λ h kept. by_promise h (progress_of start highest stored) p at kept, tt)

  -- ---- a proposal begins, and asks for votes

  begin_keeps : (me : ℕ) (own : V) (round : ℕ) → stored.tried ≤ round → Keeps start stored (begin_at me stored own round)
  unfolding begin_at stores store with_record published
  begin_keeps me own round more = record {
    reports = record {
      grows = λ highest. record { mark = refl; starts = omega arith; life = λ same. refl; round = more; promise = no_lower_self stored.promise; vote = no_lower_vote_self highest; published = omega arith };
      reports = λ highest is. (λ h kept. by_round h _ round (omega arith) kept, tt);
    };
    rounds = record { proposing = omega arith; leadership = tt };
  }

  votes_keep : (leadership : Leadership V) (p : Proposal V) → leadership.ballot.round ≤ stored.tried → p.ballot.round ≤ stored.tried → Keeps start stored (ask_votes leadership p)
  unfolding ask_votes
  votes_keep leadership p led tried = sends_keep (record { proposing = Running p; leadership = Some leadership }) (Accept p.sequence p.ballot (proposed p) ∷ []) (record { proposing = tried; leadership = led })
      (λ highest is. (λ h kept. by_round h (progress_of start highest stored) p.ballot.round tried kept, tt))

  propose_keeps : (me : ℕ) (leadership : Option (Leadership V)) (own : V) → IsLedBy leadership stored.tried → Keeps start stored (propose_by me stored leadership own)
  unfolding propose_by lead
  propose_keeps me None own led = begin_keeps me own (stored.tried + 1) (omega arith)
  propose_keeps me (Some leadership) own led = votes_keep leadership _ led led

  led_by : (leadership : Leadership V) (is_in : Bool) → leadership.ballot.round ≤ stored.tried → IsLedBy (cond is_in (Some leadership) None) stored.tried
  led_by leadership true led = led
  led_by leadership false led = tt

  led_at : (leadership : Option (Leadership V)) (s : ℕ) → IsLedBy leadership stored.tried → IsLedBy (leading_at leadership s) stored.tried
  unfolding leading_at
  led_at None s led = tt
  led_at (Some leadership) s led = led_by leadership (is_in_window leadership.base s) led

  -- ---- votes

  voted_at : (P : Ballot → Type 0) (b : Ballot) (vote : Option (Vote V)) → ((v : Vote V) → vote ≡ Some v → P v.ballot) → votes_at vote b ≡ true → P b
  unfolding votes_at
  voted_at P b None holds e = absurd (false≢true e)
  voted_at P b (Some v) holds e = subst P (same_ballot-true v.ballot b e) (holds v refl)

  opened : (s : ℕ) (b : Ballot) (d : V) → nat_lt (published stored) s ≡ true →
      with_record stored (stored_part.Accepted s b d) ≡ record stored { promise = raised stored.promise b; votes = put stored.votes s (Some (record { ballot = b; definition = d })) }
  unfolding with_record
  opened s b d is_open = rw is_open refl

  module _ (volatile : VolatileState V) (go : GoTogether stored volatile) where
    still : Keeps start stored (quiet volatile)
    still = quiet_keeps volatile go.rounds

    says : (messages : List (Message V)) → ((highest : Option HighestVote) → IsHighest stored highest → ReportNoMore (progress_of start highest stored) messages) →
        Keeps start stored (only_sends volatile messages)
    says messages no_more = sends_keep volatile messages go.rounds no_more

    goes_on : (p : Proposal V) → p.ballot.round ≤ stored.tried → Keeps start stored (quiet (with_proposal volatile p))
    unfolding with_proposal
    goes_on p tried = quiet_keeps (with_proposal volatile p) (record { proposing = tried; leadership = go.rounds.leadership })

    running_transition_keeps : (proposing : Proposing V) (transition_of : Proposal V → Transition V) → IsForNext stored proposing → IsTriedBy proposing stored.tried →
        ((p : Proposal V) → p.sequence ≡ next_sequence stored → p.ballot.round ≤ stored.tried → Keeps start stored (transition_of p)) →
        Keeps start stored (running_transition volatile proposing transition_of)
    running_transition_keeps Idle transition_of next tried keep = still
    running_transition_keeps (Running p) transition_of next tried keep = keep p next tried
    running_transition_keeps (Won s) transition_of next tried keep = still
    running_transition_keeps (Overtaken s) transition_of next tried keep = still

    when_running_keeps : (transition_of : Proposal V → Transition V) →
        ((p : Proposal V) → p.sequence ≡ next_sequence stored → p.ballot.round ≤ stored.tried → Keeps start stored (transition_of p)) →
        Keeps start stored (when_running volatile transition_of)
    when_running_keeps transition_of keep = running_transition_keeps volatile.proposing transition_of go.for_next go.rounds.proposing keep

    -- ---- the acceptor

    promise_keeps : (me s : ℕ) (b : Ballot) → Keeps start stored (promise_to me stored volatile s b)
    unfolding promise_to stores store with_record published
    promise_keeps me s b = record {
      reports = record {
        grows = λ highest. record { mark = refl; starts = omega arith; life = λ same. refl; round = omega arith; promise = no_lower_raised stored.promise b; vote = no_lower_vote_self highest; published = omega arith };
        reports = λ highest is. (λ h kept. by_promise h _ b (raised-reached stored.promise b) kept, tt);
      };
      rounds = go.rounds;
    }

    prepare_open_keeps : (me s : ℕ) (b : Ballot) (promise : Option Ballot) (above refused : Bool) → stored.promise ≡ promise →
        is_above promise b ≡ above → is_rejected promise b ≡ refused → Keeps start stored (prepare_open me stored volatile s b promise)
    unfolding prepare_open
    prepare_open_keeps me s b promise true refused its e h = rw e (promise_keeps me s b)
    prepare_open_keeps me s b promise false true its e h = rw (e, h) (says (nack me s b promise) (λ highest is. nack_reports highest me s b promise its))
    prepare_open_keeps me s b promise false false its e h = rw (e, h) still

    prepare_keeps : (me s : ℕ) (b : Ballot) (is_published : Bool) → nat_le s (published stored) ≡ is_published → Keeps start stored (on_prepare me stored volatile s b)
    unfolding on_prepare
    prepare_keeps me s b true e = rw e (says (reports stored.history s) (λ highest is. reported_reports highest s))
    prepare_keeps me s b false e = rw e (prepare_open_keeps me s b stored.promise (is_above stored.promise b) (is_rejected stored.promise b) refl refl refl)

    new_vote_keeps : (me s : ℕ) (b : Ballot) (d : V) → nat_lt (published stored) s ≡ true → Keeps start stored (stores volatile (stored_part.Accepted s b d) (Accepted me s b))
    unfolding stores store published
    new_vote_keeps me s b d is_open =
        let vote : Option (Vote V) = Some (record { ballot = b; definition = d }) in
        record {
          reports = record {
            grows = λ highest. subst (λ (x : DurableState V). IsNoLess (progress_of start highest stored) (progress_of start highest x)) (sym (opened s b d is_open))
                (record { mark = refl; starts = omega arith; life = λ same. refl; round = omega arith; promise = no_lower_raised stored.promise b; vote = no_lower_vote_self highest; published = omega arith });
            reports = subst (λ (x : DurableState V). (highest : Option HighestVote) → IsHighest x highest → ReportNoMore {V = V} (progress_of start highest x) (Accepted me s b ∷ [])) (sym (opened s b d is_open))
                (λ highest is. (λ h kept. by_vote h _ s b (raised-reached stored.promise b) (is.each s (record { ballot = b; definition = d }) (put-same stored.votes s vote s refl)) kept, tt));
          };
          rounds = subst (λ (x : DurableState V). AreTried volatile x.tried) (sym (opened s b d is_open)) go.rounds;
        }

    vote_keeps : (me s : ℕ) (b : Ballot) (d : V) (again : Bool) → nat_lt (published stored) s ≡ true → votes_at (stored.votes s) b ≡ again →
        Keeps start stored (vote_for me stored volatile s b d)
    unfolding vote_for
    vote_keeps me s b d true is_open e =
        let at : NotBelow stored.promise b = voted_at (NotBelow stored.promise) b (stored.votes s) (go.promised s) e in
        rw e (says (Accepted me s b ∷ []) (λ highest is. (λ h kept. by_vote h (progress_of start highest stored) s b at (voted_at (λ (x : Ballot). IsNoLowerVote (Some (record { ballot = x; sequence = s })) highest) b (stored.votes s) (is.each s) e) kept, tt)))
    vote_keeps me s b d false is_open e = rw e (new_vote_keeps me s b d is_open)

    accept_open_keeps : (me s : ℕ) (b : Ballot) (d : V) (promise : Option Ballot) (refused : Bool) → nat_lt (published stored) s ≡ true →
        stored.promise ≡ promise → is_rejected promise b ≡ refused → Keeps start stored (accept_open me stored volatile s b d promise)
    unfolding accept_open
    accept_open_keeps me s b d promise true is_open its e = rw e (says (nack me s b promise) (λ highest is. nack_reports highest me s b promise its))
    accept_open_keeps me s b d promise false is_open its e = rw e (vote_keeps me s b d (votes_at (stored.votes s) b) is_open refl)

    accept_keeps : (me s : ℕ) (b : Ballot) (d : V) (is_published : Bool) → nat_le s (published stored) ≡ is_published → Keeps start stored (on_accept me stored volatile s b d)
    unfolding on_accept
    accept_keeps me s b d true e = rw e (says (reports stored.history s) (λ highest is. reported_reports highest s))
    accept_keeps me s b d false e =
        let is_open : nat_lt (published stored) s ≡ true = lt-ltb (published stored) s (leb-false s (published stored) e) in
        rw e (accept_open_keeps me s b d stored.promise (is_rejected stored.promise b) is_open refl refl)

    -- ---- the proposer

    retry_keeps : (me : ℕ) → Keeps start stored (on_retry me stored volatile)
    unfolding on_retry round_known
    retry_keeps me = when_running_keeps (λ p. begin_at me stored p.own (round_known stored p + 1)) (λ p next tried. begin_keeps me p.own (round_known stored p + 1) (omega arith))

    catch_up_keeps : (more : Bool) → nat_lt (published stored) last_sequence ≡ more → Keeps start stored (on_catch_up stored volatile)
    unfolding on_catch_up
    catch_up_keeps true e = rw e (says (Ask (next_sequence stored) ∷ []) (λ highest is. ask_reports highest))
    catch_up_keeps false e = rw e still

    promised_keeps : (n : ℕ) (p : Proposal V) (is_majority : Bool) → p.ballot.round ≤ stored.tried → is_majority_of (count_nodes n p.responders) n ≡ is_majority →
        Keeps start stored (promised n volatile p)
    unfolding promised asking_votes leadership_of
    promised_keeps n p true tried e = rw e (votes_keep (leadership_of p) (asking_votes p) tried tried)
    promised_keeps n p false tried e = rw e (goes_on p tried)

    promise_by : (n : ℕ) (p : Proposal V) (sender : ℕ) (votes : List (Option (Vote V))) (is_first_response : Bool) → p.ballot.round ≤ stored.tried →
        Keeps start stored (cond is_first_response (promised n volatile (with_promise p sender votes)) (quiet volatile))
    unfolding with_promise
    promise_by n p sender votes true tried =
        let q : Proposal V = with_promise p sender votes in
        promised_keeps n q (is_majority_of (count_nodes n q.responders) n) tried refl
    promise_by n p sender votes false tried = still

    promises_keep : (n sender s : ℕ) (b : Ballot) (votes : List (Option (Vote V))) → Keeps start stored (on_promise n volatile sender s b votes)
    unfolding on_promise
    promises_keep n sender s b votes = when_running_keeps _ (λ p next tried. promise_by n p sender votes (is_new_response n p Preparing sender s b) tried)

    nack_by : (p : Proposal V) (q : Ballot) (is_its : Bool) → p.ballot.round ≤ stored.tried →
        Keeps start stored (cond is_its (quiet (with_proposal volatile (record p { seen = max p.seen q.round }))) (quiet volatile))
    nack_by p q true tried = goes_on (record p { seen = max p.seen q.round }) tried
    nack_by p q false tried = still

    nacks_keep : (s : ℕ) (b q : Ballot) → Keeps start stored (on_nack volatile s b q)
    unfolding on_nack
    nacks_keep s b q = when_running_keeps _ (λ p next tried. nack_by p q (is_at p s b) tried)

    -- ---- what publishes

    module _ (same : V → V → Bool) where
      chosen_reports_next : (s : ℕ) (d : V) → s ≡ next_sequence stored → (highest : Option HighestVote) →
          ReportNoMore {V = V} (progress_of start highest (with_record stored (Published s d))) (Chosen s d ∷ [])
      unfolding with_record published next_sequence
      chosen_reports_next s d next highest = (λ h kept. by_sequence h _ s (omega (arith, one_more d, next)) kept, tt)

      ended_by : (s : ℕ) (is_own : Bool) → IsTriedBy {V = V} (cond is_own (Won s) (Overtaken s)) stored.tried
      ended_by s true = tt
      ended_by s false = tt

      ended_tried : (p : Proposal V) (d : V) → IsTriedBy (ended same p d) stored.tried
      unfolding ended
      ended_tried p d = ended_by p.sequence (same p.own d)

      ends_tried : (proposing : Proposing V) (d : V) → IsTriedBy (ends same proposing d) stored.tried
      unfolding ends
      ends_tried Idle d = tt
      ends_tried (Running p) d = ended_tried p d
      ends_tried (Won s) d = tt
      ends_tried (Overtaken s) d = tt

      voted_keeps : (n : ℕ) (p : Proposal V) (is_majority : Bool) → p.sequence ≡ next_sequence stored → p.ballot.round ≤ stored.tried →
          is_majority_of (count_nodes n p.responders) n ≡ is_majority → Keeps start stored (voted same n volatile p)
      unfolding voted stores
      voted_keeps n p true next tried e = rw e (published_keeps (record volatile { proposing = ended same p (proposed p) }) p.sequence (proposed p) (Chosen p.sequence (proposed p) ∷ [])
          (record { proposing = ended_tried p (proposed p); leadership = go.rounds.leadership }) (chosen_reports_next p.sequence (proposed p) next))
      voted_keeps n p false next tried e = rw e (goes_on p tried)

      vote_by : (n : ℕ) (p : Proposal V) (sender : ℕ) (is_first_response : Bool) → p.sequence ≡ next_sequence stored → p.ballot.round ≤ stored.tried →
          Keeps start stored (cond is_first_response (voted same n volatile (with_vote p sender)) (quiet volatile))
      unfolding with_vote
      vote_by n p sender true next tried =
          let q : Proposal V = with_vote p sender in
          voted_keeps n q (is_majority_of (count_nodes n q.responders) n) next tried refl
      vote_by n p sender false next tried = still

      accepted_keeps : (n sender s : ℕ) (b : Ballot) → Keeps start stored (on_accepted same n volatile sender s b)
      unfolding on_accepted
      accepted_keeps n sender s b = when_running_keeps _ (λ p next tried. vote_by n p sender (is_new_response n p Accepting sender s b) next tried)

      chosen_keeps : (s : ℕ) (d : V) (is_next is_later : Bool) → (s == next_sequence stored) ≡ is_next → nat_lt (next_sequence stored) s ≡ is_later →
          Keeps start stored (on_chosen same stored volatile s d)
      unfolding on_chosen after_publishing
      chosen_keeps s d true is_later e h = rw e (published_keeps (after_publishing same volatile d) s d [] (record { proposing = ends_tried volatile.proposing d; leadership = go.rounds.leadership }) (λ highest. tt))
      chosen_keeps s d false true e h = rw (e, h) (says (Ask (next_sequence stored) ∷ []) (λ highest is. ask_reports highest))
      chosen_keeps s d false false e h = rw (e, h) still

      -- ---- the table

      message_keeps : (n me : ℕ) (m : Message V) → Keeps start stored (on_message same n me stored volatile m)
      unfolding on_message on_ask
      message_keeps n me (Prepare s b) = prepare_keeps me s b (nat_le s (published stored)) refl
      message_keeps n me (Promise sender s b votes) = promises_keep n sender s b votes
      message_keeps n me (Accept s b d) = accept_keeps me s b d (nat_le s (published stored)) refl
      message_keeps n me (Accepted sender s b) = accepted_keeps n sender s b
      message_keeps n me (Nack sender s b q) = nacks_keep s b q
      message_keeps n me (Chosen s d) = chosen_keeps s d (s == next_sequence stored) (nat_lt (next_sequence stored) s) refl refl
      message_keeps n me (Ask s) = says (reports_from stored.history s most_reports) (λ highest is. reported_from_reports highest s most_reports)

      transition_keeps : (n me : ℕ) (input : Input V) → Keeps start stored (transition same n me stored volatile input)
      unfolding transition on_propose
      transition_keeps n me (Propose d) = propose_keeps me (leading_at volatile.leadership (next_sequence stored)) d (led_at volatile.leadership (next_sequence stored) go.rounds.leadership)
      transition_keeps n me Retry = retry_keeps me
      transition_keeps n me CatchUp = catch_up_keeps (nat_lt (published stored) last_sequence) refl
      transition_keeps n me (Deliver m) = message_keeps n me m

-- ---- of every node

-- these records, oldest first, leave this
abbrev IsFold : {V : Type 0} → DurableState V → Type 0
IsFold {V} stored = (records : List (Record V)) × (fold records ≡ Some stored)

fold_by : {V : Type 0} (from stored : DurableState V) (x r : Record V) (records : List (Record V)) (fit : Bool) → fits from x ≡ fit →
    (fold_from (with_record from x) records ≡ Some stored → fold_from (with_record from x) (records ++ r ∷ []) ≡ Some (with_record stored r)) →
    fold_from from (x ∷ records) ≡ Some stored → fold_from from (x ∷ (records ++ r ∷ [])) ≡ Some (with_record stored r)
unfolding fold_from
fold_by from stored x r records true is_fit more e = rw is_fit (more (rw is_fit at e))
fold_by from stored x r records false is_fit more e = absurd (none-some stored (rw is_fit at e))

fold_more : {V : Type 0} (from stored : DurableState V) (records : List (Record V)) (r : Record V) → fold_from from records ≡ Some stored → fits stored r ≡ true →
    fold_from from (records ++ r ∷ []) ≡ Some (with_record stored r)
unfolding fold_from
fold_more from stored [] r e fit = rw (same_Some from stored e, fit) refl
fold_more from stored (x ∷ records) r e fit = fold_by from stored x r records (fits from x) refl (λ folds. fold_more (with_record from x) stored records r folds fit) e

store_folds : {V : Type 0} (stored : DurableState V) (entry : Option (Record V)) → IsFold stored → Fits stored entry → IsFold (store stored entry)
unfolding store fold
store_folds stored None (records, folds) fit = (records, folds)
store_folds stored (Some r) (records, folds) fit = (records ++ r ∷ [], fold_more nothing_stored stored records r folds fit)

-- Its stored state is a fold of records, so no vote is above the promise.
record IsReached {V : Type 0} (node : RunningNode V) : Type 0 where
  folded : IsFold node.stored
  for_next : IsForNext node.stored node.volatile.proposing
  rounds : AreTried node.volatile node.stored.tried

start_reached : {V : Type 0} (stored : DurableState V) → IsFold stored → IsReached (node_at_start stored)
unfolding at_start
start_reached stored folded = record { folded = folded; for_next = tt; rounds = record { proposing = tt; leadership = tt } }

module _ {V : Type 0} (records_fit : RecordsFit V) (votes_are_promised : VotesArePromised V) (same : V → V → Bool) (n me : ℕ) (start : Progress) where
  kept_at : (node : RunningNode V) (input : Input V) → IsReached node → Keeps start node.stored (transition same n me node.stored node.volatile input)
  kept_at node input reached =
      transition_keeps start node.stored node.volatile (record { for_next = reached.for_next; rounds = reached.rounds; promised = λ s vote. votes_are_promised reached.folded.0 node.stored s vote reached.folded.1 }) same n me input

  reached_after : (node : RunningNode V) (occurrence : Occurrence V) → IsReached node → IsReached (after_occurrence same n me node occurrence)
  unfolding after_occurrence
  reached_after node (Handled input) reached =
      let t : Transition V = transition same n me node.stored node.volatile input in
      let fit : TransitionFits node.stored t = records_fit same n me node.stored node.volatile input reached.for_next in
      record { folded = store_folds node.stored t.entry reached.folded fit.fits; for_next = fit.for_next; rounds = (kept_at node input reached).rounds }
  reached_after node Restarted reached = start_reached node.stored reached.folded

  all_reached : (node : RunningNode V) (occurred : List (Occurrence V)) → IsReached node → IsReached (after_all same n me node occurred)
  unfolding after_all
  all_reached node [] reached = reached
  all_reached node (first ∷ rest) reached = all_reached (after_occurrence same n me node first) rest (reached_after node first reached)

pub steps_report_no_more : (V : Type 0) → RecordsFit V → VotesArePromised V → StepsReportNoMore V
steps_report_no_more V records_fit votes_are_promised = λ same n me records first folds occurred input start.
    let began : IsReached (node_at_start first) = start_reached first (records, folds) in
    let reached : IsReached (after_all same n me (node_at_start first) occurred) = all_reached records_fit votes_are_promised same n me start (node_at_start first) occurred began in
    (kept_at records_fit votes_are_promised same n me start (after_all same n me (node_at_start first) occurred) input reached).reports
