-- The transitions of a node that proposes or leads, and those for a chosen definition; and the
-- whole table.
use Rattle.std.proofs.Common.{◌≡◌, ℕ, ◌+◌, ◌<◌, ◌≤◌, ◌==◌, nat_lt, nat_le, max, cond, Bool, true, false, is_some, List, [], ◌∷◌, ◌++◌, Option, Some, None, refl, sym, ap, subst, ◌∙◌, inl, inr, arith, le_refl, append-nil, eqb-true, leb-true, leb-false, ltb-true}
use Rattle.std.specs.Prelude.{⊤}
use Rattle.std.proofs.lemmas.Bool.{false≢true, true≢false, and_parts, cases_lt}
use Rattle.std.proofs.lemmas.Option.{none-some, same_Some}
use Rattle.wf_ballot.specs.Ballot.{Ballot, below}
use Rattle.wf_ballot.specs.Majority.{count_nodes, is_majority_of}
use Rattle.wf_ballot.specs.OrderTheorems.{below-irreflexive, below-asymmetric, not_below-below}
use Rattle.wf_ballot.specs.Sequence.{last_sequence}
use Rattle.wf_model.specs.Message.{Vote, Message, Prepare, Promise, Accept, Accepted, Nack, Chosen, Ask, first_vote, from_sequence, vote_of}
use Rattle.wf_model.specs.DurableState.{DurableState, Tried, Published, published, next_sequence, with_record}
use Rattle.wf_model.specs.VolatileState.{Phase, Preparing, Accepting, Proposal, Proposing, Idle, Running, Won, Overtaken, Leadership, VolatileState, nobody, and_node, better, carried, proposed, is_at, window, is_in_window, leading_at}
use Rattle.wf_model.specs.Table.{Transition, StepRejection, SequenceFull, Input, Propose, Retry, CatchUp, Deliver, store, quiet, only_sends, stores, running_transition, when_running, with_proposal, round_known, reject_proposal, step_rejection, begin_at, ask_votes, lead, propose_by, on_propose, on_retry, on_catch_up, is_new_response, with_promise, asking_votes, leadership_of, promised, on_promise, with_vote, on_nack, ended, ends, after_publishing, voted, on_accepted, on_chosen, on_message, transition}
use Rattle.wf_model.specs.Chosen.{IsIn, Reported, IsChosen}
use Rattle.wf_model.specs.VotesTheorems.{reports_vote, IsItsVote, reported_vote, first_vote-of, vote_of-better}
use Rattle.wf_safety.specs.Theorems.{AreReportsWithin, IsInWindow, HasPromised, IsReported, BestIsReported, IsVoteCarried, IsBacked}
use Rattle.wf_safety.proofs.Members.{member-split, member-last}
use Rattle.wf_safety.proofs.Facts.{IsNext, DurableFacts, PreparingFacts, AcceptingFacts, PhaseFacts, ProposalFacts, ProposingFacts, LeadershipFacts, LeadingFacts, last_asked, IsWhole, VolatileFacts, IsKnown, MaySend, NodeFacts, IsOwnAsk, TransitionFacts}
use Rattle.wf_safety.proofs.RecordFacts.{store_tried, published-more, published-tried, next_is_next, store_published}
use Rattle.wf_safety.proofs.TransitionMessages.{led_longer, LeadingFacts-stored}
use Rattle.wf_safety.proofs.Acceptor.{quiet_facts, sends_facts, stores_facts, prepare_facts, accept_facts, ask_facts}
use Rattle.wf_safety.proofs.Ballots.{and_node-true, and_node-self, and_node-old, IsNewResponse, is_new_response-true}

-- ---- the best of the reported votes

within_by : {V : Type 0} (best vote : Vote V) (higher : Bool) → below best.ballot vote.ballot ≡ higher → AreReportsWithin (Some vote) (better (Some best) (Some vote))
unfolding better
within_by best vote true e = rw e (below-irreflexive vote.ballot)
within_by best vote false e = rw e e

-- the best vote isn't below the one that is reported now
within_self : {V : Type 0} (best vote : Option (Vote V)) → AreReportsWithin vote (better best vote)
unfolding better
within_self best None = tt
within_self None (Some vote) = below-irreflexive vote.ballot
within_self (Some best) (Some vote) = within_by best vote (below best.ballot vote.ballot) refl

kept_within : {V : Type 0} (best vote old : Vote V) (higher : Bool) → below best.ballot vote.ballot ≡ higher → below best.ballot old.ballot ≡ false →
    AreReportsWithin (Some old) (better (Some best) (Some vote))
unfolding better
kept_within best vote old true e h = rw e (below-asymmetric old.ballot vote.ballot (not_below-below old.ballot best.ballot vote.ballot h e))
kept_within best vote old false e h = rw e h

-- and it isn't below those reported before
within_better : {V : Type 0} (best vote old : Option (Vote V)) → AreReportsWithin old best → AreReportsWithin old (better best vote)
unfolding better
within_better best vote None h = tt
within_better None vote (Some old) h = absurd h
within_better (Some best) None (Some old) h = h
within_better (Some best) (Some vote) (Some old) h = kept_within best vote old (below best.ballot vote.ballot) refl h

module _ {V : Type 0} (sent : List (Message V)) (base s : ℕ) (b : Ballot) (nodes : ℕ → Bool) (sender : ℕ) where
  reported_by : (vote : Vote V) → Reported sent base s b (Some vote) sender → IsReported sent base s b (and_node nodes sender) vote
  reported_by vote stated = record { teller = sender; is_member = and_node-self nodes sender; stated = stated }

  still_reported : (vote : Vote V) → IsReported sent base s b nodes vote → IsReported sent base s b (and_node nodes sender) vote
  still_reported vote h = record { teller = h.teller; is_member = and_node-old nodes sender h.teller h.is_member; stated = h.stated }

  reported_higher : (best vote : Vote V) (higher : Bool) → below best.ballot vote.ballot ≡ higher → IsReported sent base s b nodes best → Reported sent base s b (Some vote) sender →
      BestIsReported sent base s b (and_node nodes sender) (better (Some best) (Some vote))
  unfolding better
  reported_higher best vote true e h stated = rw e (reported_by vote stated)
  reported_higher best vote false e h stated = rw e (still_reported best h)

  -- the best vote was reported by a node that is counted
  reported_better : (best vote : Option (Vote V)) → BestIsReported sent base s b nodes best → ((v : Vote V) → vote ≡ Some v → Reported sent base s b (Some v) sender) →
      BestIsReported sent base s b (and_node nodes sender) (better best vote)
  unfolding better
  reported_better None None h stated = tt
  reported_better None (Some vote) h stated = reported_by vote (stated vote refl)
  reported_better (Some best) None h stated = still_reported best h
  reported_better (Some best) (Some vote) h stated = reported_higher best vote (below best.ballot vote.ballot) refl h (stated vote refl)

carried_is : {V : Type 0} (best : Option (Vote V)) (own : V) → IsVoteCarried best (carried best own)
unfolding carried
carried_is None own = tt
carried_is (Some best) own = refl

module _ {V : Type 0} (n i : ℕ) (stored : DurableState V) (sent : List (Message V)) where
  -- ---- the transition of a proposal, which only a running one has

  running_transition_facts : (volatile : VolatileState V) (proposing : Proposing V) (transition_of : Proposal V → Transition V) → NodeFacts n i stored volatile sent → volatile.proposing ≡ proposing →
      ((p : Proposal V) → volatile.proposing ≡ Running p → TransitionFacts n i stored sent (transition_of p)) → TransitionFacts n i stored sent (running_transition volatile proposing transition_of)
  running_transition_facts volatile Idle transition_of facts is_it of_running = quiet_facts n i stored sent volatile facts.stored facts.volatile
  running_transition_facts volatile (Running p) transition_of facts is_it of_running = of_running p is_it
  running_transition_facts volatile (Won t) transition_of facts is_it of_running = quiet_facts n i stored sent volatile facts.stored facts.volatile
  running_transition_facts volatile (Overtaken t) transition_of facts is_it of_running = quiet_facts n i stored sent volatile facts.stored facts.volatile

  when_running_facts : (volatile : VolatileState V) (transition_of : Proposal V → Transition V) → NodeFacts n i stored volatile sent →
      ((p : Proposal V) → volatile.proposing ≡ Running p → TransitionFacts n i stored sent (transition_of p)) → TransitionFacts n i stored sent (when_running volatile transition_of)
  when_running_facts volatile transition_of facts of_running = running_transition_facts volatile volatile.proposing transition_of facts refl of_running

  -- what is known of the running proposal, and of the leadership beside it
  running_facts : (volatile : VolatileState V) (p : Proposal V) → volatile.proposing ≡ Running p → VolatileFacts n i stored sent volatile → ProposalFacts i stored sent p
  running_facts volatile p is_it facts = subst (ProposingFacts i stored sent) is_it facts.proposing

  leading_facts : (volatile : VolatileState V) (p : Proposal V) → volatile.proposing ≡ Running p → VolatileFacts n i stored sent volatile →
      LeadingFacts n i stored sent (next_sequence stored) volatile.leadership
  leading_facts volatile p is_it facts = subst (λ x. LeadingFacts n i stored sent (last_asked stored x) volatile.leadership) is_it facts.leading

  -- another state of the proposal, under the same leadership
  with_proposal_facts : (volatile : VolatileState V) (p q : Proposal V) → volatile.proposing ≡ Running p → VolatileFacts n i stored sent volatile → ProposalFacts i stored sent q →
      VolatileFacts n i stored sent (with_proposal volatile q)
  unfolding with_proposal
  with_proposal_facts volatile p q is_it facts known = record { proposing = known; leading = leading_facts volatile p is_it facts }

  -- ---- a proposal starts

  -- the volatile state in which a proposal starts at a round
  abbrev begun : V → ℕ → VolatileState V
  begun own round = record {
    proposing = Running (record {
      sequence = next_sequence stored;
      ballot = record { round = round; node = i };
      own = own;
      phase = Preparing;
      responders = nobody;
      best = [];
      seen = 0;
    });
    leadership = None;
  }

  -- no Accept for an open sequence was sent at a ballot of a round that its node hasn't tried
  untried : DurableFacts n i stored sent → (round t : ℕ) (d : V) → stored.tried < round → published stored < t →
      IsIn (Accept t (record { round = round; node = i }) d) (sent ++ Prepare (next_sequence stored) (record { round = round; node = i }) ∷ []) → ⊥
  untried facts round t d higher is_open h =
      let b : Ballot = record { round = round; node = i } in
      elim (member-split (Accept t b d) sent (Prepare (next_sequence stored) b) h) [
        | inl old ↦ (let tried : round ≤ stored.tried = facts.tried t b d old refl is_open in absurd (omega arith))
        | inr e ↦ cc
      ]

  -- no answer is counted, and no vote is reported
  nothing_reported : (b : Ballot) (all : List (Message V)) (s t : ℕ) → BestIsReported all s t b nobody (vote_of s [] t)
  unfolding first_vote from_sequence
  nothing_reported b all s t = tt

  -- The round is stored before the Prepare is sent, so this node has tried the ballot's round; no
  -- Accept of it for an open sequence was sent, since it tried no such round before; and no answer
  -- is counted yet.
  begin_facts : (own : V) (round : ℕ) → i < n → stored.tried < round → next_sequence stored ≤ last_sequence → DurableFacts n i stored sent → TransitionFacts n i stored sent (begin_at i stored own round)
  unfolding begin_at stores store with_record published next_sequence nobody
  begin_facts own round is_node higher is_sequence facts =
      let b : Ballot = record { round = round; node = i } in
      record {
        stored = store_tried n i stored sent round (omega arith) facts;
        sends = (
          record {
            is_node = is_node;
            known = λ c is_in. elim is_in [
              | inl e ↦ subst (IsKnown i (with_record stored (Tried round)) sent) (sym e) (inl (refl, le_refl round))
              | inr k ↦ absurd k
            ];
            meet = next_is_next n i stored sent facts;
          },
          tt,
        );
        volatile = record {
          proposing = record {
            own = refl;
            tried = le_refl round;
            next = refl;
            is_sequence = is_sequence;
            phase = record {
              fresh = λ t d from h. untried facts round t d higher (omega arith) h;
              responders = λ j t h in_window. absurd (false≢true h);
              reports = λ t. nothing_reported b (sent ++ Prepare (next_sequence stored) b ∷ []) (next_sequence stored) t;
            };
          };
          leading = tt;
        };
        asks = λ m is_in. elim is_in [
          | inl e ↦ subst (IsOwnAsk i (begun own round)) (sym e) (refl, (refl, refl))
          | inr k ↦ absurd k
        ];
        rounds = omega arith;
        prepares = λ t c is_in. elim is_in [
          | inl e ↦ (let same : c ≡ b = cc in subst (λ (x : Ballot). stored.tried < x.round) (sym same) higher)
          | inr k ↦ absurd k
        ];
      }

  -- ---- votes are asked for

  -- The Accept is sent for the best vote that the leadership's majority reported at its sequence.
  -- So that majority backs it; and no other Accept at this ballot and sequence was sent.
  ask_votes_facts : (l : Leadership V) (p : Proposal V) (last : ℕ) → i < n → DurableFacts n i stored sent → LeadershipFacts n i stored sent last l →
      p.ballot ≡ l.ballot → p.sequence ≡ next_sequence stored → p.phase ≡ Accepting → p.responders ≡ nobody → first_vote p.best ≡ vote_of l.base l.best p.sequence →
      IsInWindow l.base p.sequence → last ≤ next_sequence stored → ((d : V) → IsIn (Accept p.sequence l.ballot d) sent → ⊥) → TransitionFacts n i stored sent (ask_votes l p)
  unfolding ask_votes only_sends store proposed nobody
  ask_votes_facts l p last is_node facts led at_ballot next in_phase unheard best in_window before_next fresh =
      let d : V = proposed p in
      let own : p.ballot.node ≡ i = subst (λ (b : Ballot). b.node ≡ i) (sym at_ballot) led.own in
      let tried : p.ballot.round ≤ stored.tried = subst (λ (b : Ballot). b.round ≤ stored.tried) (sym at_ballot) led.tried in
      let backed : IsBacked n sent p.sequence l.ballot d = record {
        base = l.base;
        in_window = in_window;
        best = vote_of l.base l.best p.sequence;
        majority = record { nodes = led.nodes; is_majority = led.is_majority; each = λ j is_node is_in. led.responders j p.sequence is_in in_window };
        reports = led.reports p.sequence;
        carried = subst (λ o. IsVoteCarried o d) best (carried_is (first_vote p.best) p.own);
      } in
      record {
        stored = facts;
        sends = (
          record {
            is_node = is_node;
            known = λ c is_in. elim is_in [
              | inl e ↦ subst (IsKnown i stored sent) (sym e) (inl (own, tried))
              | inr k ↦ absurd k
            ];
            meet = record {
              own = own;
              tried = tried;
              next = subst (IsNext n sent) (sym next) (next_is_next n i stored sent facts);
              fresh = λ e h. fresh e (subst (λ (b : Ballot). IsIn (Accept p.sequence b e) sent) at_ballot h);
              backed = subst (λ (b : Ballot). IsBacked n sent p.sequence b d) (sym at_ballot) backed;
            };
          },
          tt,
        );
        volatile = record {
          proposing = record {
            own = own;
            tried = tried;
            next = next;
            is_sequence = in_window.is_sequence;
            phase = subst (PhaseFacts (sent ++ Accept p.sequence p.ballot d ∷ []) p) (sym in_phase) (record {
              asked = member-last (Accept p.sequence p.ballot d) sent;
              responders = λ j h. absurd (false≢true (sym (ap (λ (nodes : ℕ → Bool). nodes j) unheard) ∙ h));
            });
          };
          leading = led_longer sent (Accept p.sequence p.ballot d ∷ []) n i stored last (next_sequence stored) l
              (λ t e h. elim (member-split (Accept t l.ballot e) sent (Accept p.sequence p.ballot d) h) [
                | inl old ↦ (let within : t ≤ last = led.asked t e old in omega arith)
                | inr is_new ↦ (let same : t ≡ p.sequence = cc in omega arith)
              ]) led;
        };
        asks = λ m is_in. elim is_in [
          | inl e ↦ subst (IsOwnAsk i (record { proposing = Running p; leadership = Some l })) (sym e) (own, (refl, refl))
          | inr k ↦ absurd k
        ];
        rounds = le_refl stored.tried;
        prepares = λ t c is_in. elim is_in [ inl e ↦ cc | inr k ↦ absurd k ];
      }

  -- ---- a promise is received

  -- The nodes counted before reported, at each sequence, votes within the best one before, so
  -- within the better one; the node counted now reported its votes, and the better ones aren't
  -- below them.
  with_promise_facts : (p : Proposal V) (sender : ℕ) (votes : List (Option (Vote V))) → PreparingFacts sent p → IsWhole p.sequence votes →
      IsIn (Promise sender p.sequence p.ballot votes) sent → PreparingFacts sent (with_promise p sender votes)
  unfolding with_promise
  with_promise_facts p sender votes facts whole stated = record {
    fresh = facts.fresh;
    responders = λ j t h in_window.
        let (vote, reported) = whole t in_window in
        let its : IsItsVote p.sequence votes t vote = reported_vote p.sequence votes t vote reported in
        subst (λ o. HasPromised sent p.sequence t p.ballot o j) (sym (vote_of-better p.sequence p.best votes t))
        (elim (and_node-true p.responders sender j h) [
          | inl e ↦ subst (HasPromised sent p.sequence t p.ballot (better (vote_of p.sequence p.best t) (vote_of p.sequence votes t))) (sym e) (record {
            vote = vote;
            stated = record { votes = votes; stated = stated; reported = reported };
            within = subst (λ o. AreReportsWithin o (better (vote_of p.sequence p.best t) (vote_of p.sequence votes t))) its.is_it
                (within_self (vote_of p.sequence p.best t) (vote_of p.sequence votes t));
          })
          | inr old ↦ (let o : HasPromised sent p.sequence t p.ballot (vote_of p.sequence p.best t) j = facts.responders j t old in_window in
              record { vote = o.vote; stated = o.stated; within = within_better (vote_of p.sequence p.best t) (vote_of p.sequence votes t) o.vote o.within })
        ]);
    reports = λ t.
        subst (BestIsReported sent p.sequence t p.ballot (and_node p.responders sender)) (sym (vote_of-better p.sequence p.best votes t))
        (reported_better sent p.sequence t p.ballot p.responders sender (vote_of p.sequence p.best t) (vote_of p.sequence votes t) (facts.reports t)
        (λ vote e. record { votes = votes; stated = stated; reported = reports_vote p.sequence votes t vote e }));
  }

  last_below : published stored ≤ next_sequence stored
  unfolding next_sequence
  last_below = omega arith

  before_next : (t s : ℕ) → s ≡ next_sequence stored → t < s → t ≤ published stored
  unfolding next_sequence
  before_next t s next earlier = omega arith

  -- A majority promised: its node leads, and asks for votes.
  asking_facts : (p : Proposal V) → i < n → DurableFacts n i stored sent → ProposalFacts i stored sent p → PreparingFacts sent p →
      is_majority_of (count_nodes n p.responders) n ≡ true → TransitionFacts n i stored sent (ask_votes (leadership_of p) (asking_votes p))
  unfolding leadership_of asking_votes
  asking_facts p is_node facts proposal preparing is_majority =
      let led : LeadershipFacts n i stored sent (published stored) (leadership_of p) = record {
        own = proposal.own;
        tried = proposal.tried;
        asked = λ t d h. elim (cases_lt t p.sequence) [
          | inl earlier ↦ before_next t p.sequence proposal.next earlier
          | inr later ↦ absurd (preparing.fresh t d later h)
        ];
        nodes = p.responders;
        is_majority = is_majority;
        responders = preparing.responders;
        reports = preparing.reports;
      } in
      ask_votes_facts (leadership_of p) (asking_votes p) (published stored) is_node facts led refl proposal.next refl refl (sym (first_vote-of p.sequence p.best))
      (record { from_base = le_refl p.sequence; before_end = omega arith; is_sequence = proposal.is_sequence }) last_below (λ d h. preparing.fresh p.sequence d (le_refl p.sequence) h)

  promised_by : (volatile : VolatileState V) (p q : Proposal V) (is_majority : Bool) → i < n → DurableFacts n i stored sent → volatile.proposing ≡ Running p → VolatileFacts n i stored sent volatile →
      ProposalFacts i stored sent q → PreparingFacts sent q → is_majority_of (count_nodes n q.responders) n ≡ is_majority → TransitionFacts n i stored sent (promised n volatile q)
  unfolding promised
  promised_by volatile p q true is_node facts is_it at_work proposal preparing e = rw e (asking_facts q is_node facts proposal preparing e)
  promised_by volatile p q false is_node facts is_it at_work proposal preparing e =
      rw e (quiet_facts n i stored sent (with_proposal volatile q) facts (with_proposal_facts volatile p q is_it at_work proposal))

  received_promise : (volatile : VolatileState V) (p : Proposal V) (sender : ℕ) (votes : List (Option (Vote V))) → NodeFacts n i stored volatile sent → volatile.proposing ≡ Running p →
      p.phase ≡ Preparing → IsIn (Promise sender p.sequence p.ballot votes) sent → TransitionFacts n i stored sent (promised n volatile (with_promise p sender votes))
  unfolding with_promise
  received_promise volatile p sender votes facts is_it in_phase stated =
      let proposal : ProposalFacts i stored sent p = running_facts volatile p is_it facts.volatile in
      let preparing : PreparingFacts sent p = subst (PhaseFacts sent p) in_phase proposal.phase in
      let q : Proposal V = with_promise p sender votes in
      let preparing' : PreparingFacts sent q = with_promise_facts p sender votes preparing (facts.messages.whole sender p.sequence p.ballot votes stated) stated in
      let proposal' : ProposalFacts i stored sent q = record {
        own = proposal.own;
        tried = proposal.tried;
        next = proposal.next;
        is_sequence = proposal.is_sequence;
        phase = subst (PhaseFacts sent q) (sym in_phase) preparing';
      } in
      promised_by volatile p q (is_majority_of (count_nodes n q.responders) n) facts.is_node facts.stored is_it facts.volatile proposal' preparing' refl

  promise_by : (volatile : VolatileState V) (p : Proposal V) (sender s : ℕ) (b : Ballot) (votes : List (Option (Vote V))) (is_first_response : Bool) → NodeFacts n i stored volatile sent →
      volatile.proposing ≡ Running p → is_new_response n p Preparing sender s b ≡ is_first_response → IsIn (Promise sender s b votes) sent →
      TransitionFacts n i stored sent (cond is_first_response (promised n volatile (with_promise p sender votes)) (quiet volatile))
  promise_by volatile p sender s b votes true facts is_it e stated =
      let h : IsNewResponse n p Preparing sender s b = is_new_response-true n p Preparing sender s b e in
      let stated' : IsIn (Promise sender p.sequence p.ballot votes) sent =
      subst (λ x. IsIn (Promise sender x p.ballot votes) sent) (sym h.at_sequence) (subst (λ (x : Ballot). IsIn (Promise sender s x votes) sent) (sym h.at_ballot) stated) in
      received_promise volatile p sender votes facts is_it h.in_phase stated'
  promise_by volatile p sender s b votes false facts is_it e stated = quiet_facts n i stored sent volatile facts.stored facts.volatile

  promise_facts : (volatile : VolatileState V) (sender s : ℕ) (b : Ballot) (votes : List (Option (Vote V))) → NodeFacts n i stored volatile sent →
      IsIn (Promise sender s b votes) sent → TransitionFacts n i stored sent (on_promise n volatile sender s b votes)
  unfolding on_promise
  promise_facts volatile sender s b votes facts stated =
      when_running_facts volatile _ facts (λ p is_it. promise_by volatile p sender s b votes (is_new_response n p Preparing sender s b) facts is_it refl stated)

  -- ---- a Nack is received

  seen_facts : (p : Proposal V) (seen : ℕ) (phase : Phase) → PhaseFacts sent p phase → PhaseFacts sent (record p { seen = seen }) phase
  unfolding proposed
  seen_facts p seen Preparing facts = record { fresh = facts.fresh; responders = facts.responders; reports = facts.reports }
  seen_facts p seen Accepting facts = record { asked = facts.asked; responders = facts.responders }

  -- A higher round seen changes nothing that the facts speak of.
  nack_by : (volatile : VolatileState V) (p : Proposal V) (q : Ballot) (is_its : Bool) → NodeFacts n i stored volatile sent → volatile.proposing ≡ Running p →
      TransitionFacts n i stored sent (cond is_its (quiet (with_proposal volatile (record p { seen = max p.seen q.round }))) (quiet volatile))
  nack_by volatile p q true facts is_it =
      let r : Proposal V = record p { seen = max p.seen q.round } in
      let known : ProposalFacts i stored sent p = running_facts volatile p is_it facts.volatile in
      let proposal : ProposalFacts i stored sent r = record {
        own = known.own;
        tried = known.tried;
        next = known.next;
        is_sequence = known.is_sequence;
        phase = seen_facts p (max p.seen q.round) p.phase known.phase;
      } in
      quiet_facts n i stored sent (with_proposal volatile r) facts.stored (with_proposal_facts volatile p r is_it facts.volatile proposal)
  nack_by volatile p q false facts is_it = quiet_facts n i stored sent volatile facts.stored facts.volatile

  nack_facts : (volatile : VolatileState V) (s : ℕ) (b q : Ballot) → NodeFacts n i stored volatile sent → TransitionFacts n i stored sent (on_nack volatile s b q)
  unfolding on_nack
  nack_facts volatile s b q facts = when_running_facts volatile _ facts (λ p is_it. nack_by volatile p q (is_at p s b) facts is_it)

  -- ---- start, restart, request the next definition

  -- a proposal that isn't rejected finds that none runs, and that the next sequence is one
  abbrev MayPropose : Proposing V → Type 0
  MayPropose proposing = (last_asked stored proposing ≡ published stored) × (next_sequence stored ≤ last_sequence)

  not_full : (rest : Option StepRejection) (full : Bool) → nat_le last_sequence (published stored) ≡ full → is_some (cond full (Some SequenceFull) rest) ≡ false → next_sequence stored ≤ last_sequence
  unfolding next_sequence
  not_full rest true e h = absurd (true≢false h)
  not_full rest false e h = let more : published stored < last_sequence = leb-false last_sequence (published stored) e in omega arith

  may_propose : (leadership : Option (Leadership V)) (proposing : Proposing V) → is_some (reject_proposal stored leadership proposing) ≡ false → MayPropose proposing
  unfolding reject_proposal
  may_propose leadership Idle h = (refl, not_full _ (nat_le last_sequence (published stored)) refl h)
  may_propose leadership (Running p) h = absurd (true≢false h)
  may_propose leadership (Won s) h = (refl, not_full _ (nat_le last_sequence (published stored)) refl h)
  may_propose leadership (Overtaken s) h = (refl, not_full _ (nat_le last_sequence (published stored)) refl h)

  next_above : next_sequence stored ≤ published stored → ⊥
  unfolding next_sequence
  next_above h = absurd (omega arith)

  -- a leader's Accept is for a sequence above all that it asked for before
  lead_facts : (volatile : VolatileState V) (l : Leadership V) (own : V) → NodeFacts n i stored volatile sent → MayPropose volatile.proposing → volatile.leadership ≡ Some l →
      is_in_window l.base (next_sequence stored) ≡ true → TransitionFacts n i stored sent (lead stored l own)
  unfolding lead is_in_window
  lead_facts volatile l own facts may is_leader covers =
      let led : LeadershipFacts n i stored sent (published stored) l =
      subst (LeadingFacts n i stored sent (published stored)) is_leader
      (subst (λ last. LeadingFacts n i stored sent last volatile.leadership) may.0 facts.volatile.leading) in
      let (from, before) = and_parts (nat_le l.base (next_sequence stored)) (nat_lt (next_sequence stored) (l.base + window)) covers in
      ask_votes_facts l _ (published stored) facts.is_node facts.stored led refl refl refl refl refl
      (record { from_base = leb-true l.base (next_sequence stored) from; before_end = ltb-true (next_sequence stored) (l.base + window) before; is_sequence = may.1 })
      last_below (λ d h. next_above (led.asked (next_sequence stored) d h))

  leading_by : (m l : Leadership V) (s : ℕ) (covers : Bool) → is_in_window m.base s ≡ covers → cond covers (Some m) None ≡ Some l → (m ≡ l) × (is_in_window l.base s ≡ true)
  leading_by m l s true e h = let same : m ≡ l = same_Some m l h in (same, subst (λ (x : Leadership V). is_in_window x.base s ≡ true) same e)
  leading_by m l s false e h = absurd (none-some l h)

  leading_is : (leadership : Option (Leadership V)) (l : Leadership V) (s : ℕ) → leading_at leadership s ≡ Some l → (leadership ≡ Some l) × (is_in_window l.base s ≡ true)
  unfolding leading_at
  leading_is None l s h = absurd (none-some l h)
  leading_is (Some m) l s h = let (same, covers) = leading_by m l s (is_in_window m.base s) refl h in (ap Some same, covers)

  propose_by_facts : (volatile : VolatileState V) (own : V) (found : Option (Leadership V)) → NodeFacts n i stored volatile sent → MayPropose volatile.proposing →
      leading_at volatile.leadership (next_sequence stored) ≡ found → TransitionFacts n i stored sent (propose_by i stored found own)
  unfolding propose_by
  propose_by_facts volatile own None facts may e = begin_facts own (stored.tried + 1) facts.is_node (omega arith) may.1 facts.stored
  propose_by_facts volatile own (Some l) facts may e =
      let (is_leader, covers) = leading_is volatile.leadership l (next_sequence stored) e in
      lead_facts volatile l own facts may is_leader covers

  propose_facts : (volatile : VolatileState V) (own : V) → NodeFacts n i stored volatile sent → MayPropose volatile.proposing → TransitionFacts n i stored sent (on_propose i stored volatile own)
  unfolding on_propose
  propose_facts volatile own facts may = propose_by_facts volatile own (leading_at volatile.leadership (next_sequence stored)) facts may refl

  retry_facts : (volatile : VolatileState V) → NodeFacts n i stored volatile sent → TransitionFacts n i stored sent (on_retry i stored volatile)
  unfolding on_retry round_known
  retry_facts volatile facts = when_running_facts volatile _ facts (λ p is_it.
      let known : ProposalFacts i stored sent p = running_facts volatile p is_it facts.volatile in
      begin_facts p.own (max stored.tried p.seen + 1) facts.is_node (omega arith) (subst (λ k. k ≤ last_sequence) known.next known.is_sequence) facts.stored)

  asks_next : (volatile : VolatileState V) → NodeFacts n i stored volatile sent → TransitionFacts n i stored sent (only_sends volatile (Ask (next_sequence stored) ∷ []))
  asks_next volatile facts =
      let may : MaySend n i stored sent (Ask (next_sequence stored)) = record { is_node = facts.is_node; known = λ c is_in. absurd is_in; meet = tt } in
      sends_facts n i stored sent volatile (Ask (next_sequence stored) ∷ []) facts.stored facts.volatile (tt, tt) (may, tt)

  catch_up_by : (volatile : VolatileState V) (more : Bool) → NodeFacts n i stored volatile sent → nat_lt (published stored) last_sequence ≡ more →
      TransitionFacts n i stored sent (on_catch_up stored volatile)
  unfolding on_catch_up
  catch_up_by volatile true facts e = rw e (asks_next volatile facts)
  catch_up_by volatile false facts e = rw e (quiet_facts n i stored sent volatile facts.stored facts.volatile)

  -- ---- votes are received, and a chosen definition

  module _ (same : V → V → Bool) where
    -- A running proposal ends when a definition is published; a leadership stays, and the last
    -- sequence that it may have asked for is published then.
    ended_facts : (before : DurableState V) (all : List (Message V)) (p : Proposal V) (d : V) → ProposingFacts i before all (ended same p d)
    unfolding ended
    ended_facts before all p d = ends_by (same p.own d)
      where
        ends_by : (is_own : Bool) → ProposingFacts i before all (cond is_own (Won p.sequence) (Overtaken p.sequence))
        ends_by true = tt
        ends_by false = tt

    ends_facts : (before : DurableState V) (all : List (Message V)) (proposing : Proposing V) (d : V) → ProposingFacts i before all (ends same proposing d)
    unfolding ends
    ends_facts before all Idle d = tt
    ends_facts before all (Running p) d = ended_facts before all p d
    ends_facts before all (Won s) d = tt
    ends_facts before all (Overtaken s) d = tt

    last_at_most : (proposing : Proposing V) → last_asked stored proposing ≤ published stored + 1
    unfolding next_sequence
    last_at_most Idle = omega arith
    last_at_most (Running p) = omega arith
    last_at_most (Won s) = omega arith
    last_at_most (Overtaken s) = omega arith

    ended_last : (p : Proposal V) (d : V) (after : DurableState V) → last_asked after (ended same p d) ≡ published after
    unfolding ended
    ended_last p d after = ends_by (same p.own d)
      where
        ends_by : (is_own : Bool) → last_asked after (cond is_own (Won p.sequence) (Overtaken p.sequence)) ≡ published after
        ends_by true = refl
        ends_by false = refl

    ends_last : (proposing : Proposing V) (d : V) (after : DurableState V) → last_asked after (ends same proposing d) ≡ published after
    unfolding ends
    ends_last Idle d after = refl
    ends_last (Running p) d after = ended_last p d after
    ends_last (Won s) d after = refl
    ends_last (Overtaken s) d after = refl

    -- the volatile state when a definition is published
    after_publishing_facts : (volatile : VolatileState V) (s : ℕ) (d e : V) → VolatileFacts n i stored sent volatile →
        VolatileFacts n i (with_record stored (Published s d)) sent (after_publishing same volatile e)
    unfolding after_publishing
    after_publishing_facts volatile s d e facts =
        let after : DurableState V = with_record stored (Published s d) in
        let more : published after ≡ published stored + 1 = published-more stored s d in
        let most : last_asked stored volatile.proposing ≤ published stored + 1 = last_at_most volatile.proposing in
        let last : last_asked after (ends same volatile.proposing e) ≡ published after = ends_last volatile.proposing e after in
        record {
          proposing = ends_facts after sent volatile.proposing e;
          leading = LeadingFacts-stored n i stored after sent (published-tried stored s d) (last_asked stored volatile.proposing) (last_asked after (ends same volatile.proposing e))
              volatile.leadership (omega arith) facts.leading;
        }

    -- of the running proposal, the same
    ended_volatile : (volatile : VolatileState V) (p : Proposal V) (d : V) → volatile.proposing ≡ Running p → after_publishing same volatile d ≡ record volatile { proposing = ended same p d }
    unfolding after_publishing ends
    ended_volatile volatile p d is_it = ap (λ (x : Proposing V). record volatile { proposing = ends same x d }) is_it

    chosen_may : (s : ℕ) (d : V) (kept : DurableState V) → i < n → IsChosen n sent s d → MaySend n i kept sent (Chosen s d)
    chosen_may s d kept is_node chosen = record { is_node = is_node; known = λ c is_in. absurd is_in; meet = chosen }

    tried_on : (s : ℕ) (d : V) → stored.tried ≤ (with_record stored (Published s d)).tried
    tried_on s d = subst (λ r. stored.tried ≤ r) (published-tried stored s d) (le_refl stored.tried)

    -- A majority voted: the definition is chosen, stored and sent.
    voted_facts : (volatile : VolatileState V) (p q : Proposal V) → i < n → DurableFacts n i stored sent → volatile.proposing ≡ Running p → VolatileFacts n i stored sent volatile →
        ProposalFacts i stored sent q → AcceptingFacts sent q → is_majority_of (count_nodes n q.responders) n ≡ true → ended same p (proposed q) ≡ ended same q (proposed q) →
        TransitionFacts n i stored sent (stores (record volatile { proposing = ended same q (proposed q) }) (Published q.sequence (proposed q)) (Chosen q.sequence (proposed q)))
    unfolding next_sequence
    voted_facts volatile p q is_node facts is_it at_work proposal accepting is_majority same_end =
        let d : V = proposed q in
        let chosen : IsChosen n sent q.sequence d = record {
          ballot = q.ballot;
          majority = record {
            nodes = q.responders;
            is_majority = is_majority;
            each = λ j is_node is_in. record { stated = accepting.responders j is_in; asked = accepting.asked };
          };
        } in
        let ends : after_publishing same volatile d ≡ record volatile { proposing = ended same q d } =
        ended_volatile volatile p d is_it ∙ ap (λ (x : Proposing V). record volatile { proposing = x }) same_end in
        stores_facts n i stored sent (record volatile { proposing = ended same q d }) (Published q.sequence d) (Chosen q.sequence d) (tried_on q.sequence d)
        (store_published n i stored sent q.sequence d proposal.next chosen facts)
        (subst (VolatileFacts n i (with_record stored (Published q.sequence d)) sent) ends (after_publishing_facts volatile q.sequence d d at_work)) tt
        (chosen_may q.sequence d (with_record stored (Published q.sequence d)) is_node chosen)

    voted_by : (volatile : VolatileState V) (p q : Proposal V) (is_majority : Bool) → i < n → DurableFacts n i stored sent → volatile.proposing ≡ Running p → VolatileFacts n i stored sent volatile →
        ProposalFacts i stored sent q → AcceptingFacts sent q → is_majority_of (count_nodes n q.responders) n ≡ is_majority → ended same p (proposed q) ≡ ended same q (proposed q) →
        TransitionFacts n i stored sent (voted same n volatile q)
    unfolding voted
    voted_by volatile p q true is_node facts is_it at_work proposal accepting e same_end =
        rw e (voted_facts volatile p q is_node facts is_it at_work proposal accepting e same_end)
    voted_by volatile p q false is_node facts is_it at_work proposal accepting e same_end =
        rw e (quiet_facts n i stored sent (with_proposal volatile q) facts (with_proposal_facts volatile p q is_it at_work proposal))

    -- The node counted now sent its vote at this sequence and ballot; the others were counted
    -- before.
    received_vote : (volatile : VolatileState V) (p : Proposal V) (sender : ℕ) → NodeFacts n i stored volatile sent → volatile.proposing ≡ Running p →
        p.phase ≡ Accepting → IsIn (Accepted sender p.sequence p.ballot) sent → TransitionFacts n i stored sent (voted same n volatile (with_vote p sender))
    unfolding with_vote proposed ended
    received_vote volatile p sender facts is_it in_phase stated =
        let proposal : ProposalFacts i stored sent p = running_facts volatile p is_it facts.volatile in
        let accepting : AcceptingFacts sent p = subst (PhaseFacts sent p) in_phase proposal.phase in
        let q : Proposal V = with_vote p sender in
        let accepting' : AcceptingFacts sent q = record {
          asked = accepting.asked;
          responders = λ j h. elim (and_node-true p.responders sender j h) [
            | inl e ↦ subst (λ x. IsIn (Accepted x p.sequence p.ballot) sent) (sym e) stated
            | inr old ↦ accepting.responders j old
          ];
        } in
        let proposal' : ProposalFacts i stored sent q = record {
          own = proposal.own;
          tried = proposal.tried;
          next = proposal.next;
          is_sequence = proposal.is_sequence;
          phase = subst (PhaseFacts sent q) (sym in_phase) accepting';
        } in
        voted_by volatile p q (is_majority_of (count_nodes n q.responders) n) facts.is_node facts.stored is_it facts.volatile proposal' accepting' refl refl

    accepted_by : (volatile : VolatileState V) (p : Proposal V) (sender s : ℕ) (b : Ballot) (is_first_response : Bool) → NodeFacts n i stored volatile sent → volatile.proposing ≡ Running p →
        is_new_response n p Accepting sender s b ≡ is_first_response → IsIn (Accepted sender s b) sent →
        TransitionFacts n i stored sent (cond is_first_response (voted same n volatile (with_vote p sender)) (quiet volatile))
    accepted_by volatile p sender s b true facts is_it e stated =
        let h : IsNewResponse n p Accepting sender s b = is_new_response-true n p Accepting sender s b e in
        let stated' : IsIn (Accepted sender p.sequence p.ballot) sent =
        subst (λ x. IsIn (Accepted sender x p.ballot) sent) (sym h.at_sequence) (subst (λ x. IsIn (Accepted sender s x) sent) (sym h.at_ballot) stated) in
        received_vote volatile p sender facts is_it h.in_phase stated'
    accepted_by volatile p sender s b false facts is_it e stated = quiet_facts n i stored sent volatile facts.stored facts.volatile

    accepted_facts : (volatile : VolatileState V) (sender s : ℕ) (b : Ballot) → NodeFacts n i stored volatile sent →
        IsIn (Accepted sender s b) sent → TransitionFacts n i stored sent (on_accepted same n volatile sender s b)
    unfolding on_accepted
    accepted_facts volatile sender s b facts stated =
        when_running_facts volatile _ facts (λ p is_it. accepted_by volatile p sender s b (is_new_response n p Accepting sender s b) facts is_it refl stated)

    publishes : (volatile : VolatileState V) (s : ℕ) (d : V) → NodeFacts n i stored volatile sent → s ≡ next_sequence stored → IsIn (Chosen s d) sent →
        TransitionFacts n i stored sent (record { entry = Some (Published s d); messages = []; volatile = after_publishing same volatile d })
    unfolding store next_sequence
    publishes volatile s d facts is_next stated = record {
      stored = store_published n i stored sent s d is_next (facts.messages.chosen s d stated) facts.stored;
      sends = tt;
      volatile = subst (λ (x : List (Message V)). VolatileFacts n i (with_record stored (Published s d)) x (after_publishing same volatile d)) (sym (append-nil sent))
          (after_publishing_facts volatile s d d facts.volatile);
      asks = λ m is_in. absurd is_in;
      rounds = tried_on s d;
      prepares = λ t b is_in. absurd is_in;
    }

    chosen_by : (volatile : VolatileState V) (s : ℕ) (d : V) (is_next is_later : Bool) → NodeFacts n i stored volatile sent → (s == next_sequence stored) ≡ is_next →
        nat_lt (next_sequence stored) s ≡ is_later → IsIn (Chosen s d) sent → TransitionFacts n i stored sent (on_chosen same stored volatile s d)
    unfolding on_chosen
    chosen_by volatile s d true is_later facts e k stated = rw e (publishes volatile s d facts (eqb-true s (next_sequence stored) e) stated)
    chosen_by volatile s d false true facts e k stated = rw (e, k) (asks_next volatile facts)
    chosen_by volatile s d false false facts e k stated = rw (e, k) (quiet_facts n i stored sent volatile facts.stored facts.volatile)

    -- ---- the table

    message_facts : (volatile : VolatileState V) (m : Message V) → NodeFacts n i stored volatile sent → IsIn m sent → TransitionFacts n i stored sent (on_message same n i stored volatile m)
    unfolding on_message
    message_facts volatile (Prepare s b) facts stated = prepare_facts n i stored volatile sent facts s b stated
    message_facts volatile (Promise sender s b votes) facts stated = promise_facts volatile sender s b votes facts stated
    message_facts volatile (Accept s b d) facts stated = accept_facts n i stored volatile sent facts s b d stated
    message_facts volatile (Accepted sender s b) facts stated = accepted_facts volatile sender s b facts stated
    message_facts volatile (Nack sender s b q) facts stated = nack_facts volatile s b q facts
    message_facts volatile (Chosen s d) facts stated =
        chosen_by volatile s d (s == next_sequence stored) (nat_lt (next_sequence stored) s) facts refl refl stated
    message_facts volatile (Ask s) facts stated = ask_facts n i stored volatile sent facts s

    -- a delivered message was sent
    abbrev pub WasSent : Input V → Type 0
    WasSent (Propose d) = ⊤
    WasSent Retry = ⊤
    WasSent CatchUp = ⊤
    WasSent (Deliver m) = IsIn m sent

    pub transition_facts : (volatile : VolatileState V) (input : Input V) → NodeFacts n i stored volatile sent → WasSent input → is_some (step_rejection stored volatile input) ≡ false →
        TransitionFacts n i stored sent (transition same n i stored volatile input)
    unfolding transition step_rejection
    transition_facts volatile (Propose d) facts was_sent taken = propose_facts volatile d facts (may_propose volatile.leadership volatile.proposing taken)
    transition_facts volatile Retry facts was_sent taken = retry_facts volatile facts
    transition_facts volatile CatchUp facts was_sent taken = catch_up_by volatile (nat_lt (published stored) last_sequence) facts refl
    transition_facts volatile (Deliver m) facts was_sent taken = message_facts volatile m facts was_sent
