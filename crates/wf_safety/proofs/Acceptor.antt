-- The transitions of a node that receives a Prepare, an Accept or an Ask.
use Rattle.std.proofs.Common.{◌≡◌, ◌⊎◌, ℕ, ◌+◌, ◌<◌, Bool, true, false, List, [], ◌∷◌, ◌++◌, Option, Some, None, zero, suc, ◌≤◌, refl, sym, subst, inl, inr, arith, append-nil, leb-true, leb-false, le_refl, nat_le}
use Rattle.std.proofs.lemmas.Bool.{cases_Bool, false≢true}
use Rattle.wf_ballot.specs.Ballot.{Ballot, below}
use Rattle.wf_ballot.specs.OrderTheorems.{below-irreflexive, not_below-below}
use Rattle.wf_ballot.specs.Sequence.{last_sequence}
use Rattle.wf_model.specs.Message.{Vote, Message, Prepare, Promise, Accept, Accepted, Nack}
use Rattle.wf_model.specs.DurableState.{DurableState, Record, Promised, published, raised, with_record, put}
use Rattle.wf_model.specs.Fits.{NotBelow}
use Rattle.wf_model.specs.DurableState as stored_part
use Rattle.wf_model.specs.VolatileState.{VolatileState, window}
use Rattle.wf_model.specs.Table.{store, quiet, only_sends, stores, reports, reports_from, on_ask, is_above, is_rejected, nack, votes_from, promise_to, prepare_open, on_prepare, votes_at, vote_for, accept_open, on_accept, most_reports}
use Rattle.wf_model.specs.Chosen.{IsIn, Reports}
use Rattle.wf_model.specs.PutTheorems.{put-same}
use Rattle.wf_model.specs.RaisedTheorems.{raised-reached}
use Rattle.wf_model.specs.VotesTheorems.{own_reported, all_reported}
use Rattle.wf_safety.specs.Theorems.{vote_ballots, votes_ballots, VoteNotBelow, IsInWindow}
use Rattle.wf_safety.proofs.Members.{member-parts}
use Rattle.wf_safety.proofs.Facts.{Stands, DurableFacts, VolatileFacts, IsKnown, MaySend, NodeFacts, Sends, TransitionFacts}
use Rattle.wf_safety.proofs.RecordFacts.{accepted_order, raised_not_rejected, promised-tried, accepted-tried, with_promise, is_promised, store_promised, with_vote, is_accepted, store_accepted}
use Rattle.wf_safety.proofs.TransitionMessages.{VolatileFacts-longer, VolatileFacts-stored, IsAnswer, AreAnswers, answers_unasked, answers_unprepared, answers_ask, AreReported, reported_answers, reported_sends, reported_are_reported, reported_from_are_reported}
use Rattle.wf_safety.proofs.Ballots.{same_ballot-true}

module _ {V : Type 0} (n i : ℕ) (stored : DurableState V) (sent : List (Message V)) where
  -- ---- the three forms of a transition

  pub quiet_facts : (volatile : VolatileState V) → DurableFacts n i stored sent → VolatileFacts n i stored sent volatile → TransitionFacts n i stored sent (quiet volatile)
  unfolding quiet store
  quiet_facts volatile facts at_work = record {
    stored = facts;
    sends = tt;
    volatile = subst (λ x. VolatileFacts n i stored x volatile) (sym (append-nil sent)) at_work;
    asks = λ m is_in. absurd is_in;
    rounds = le_refl stored.tried;
    prepares = λ s b is_in. absurd is_in;
  }

  pub sends_facts : (volatile : VolatileState V) (new : List (Message V)) → DurableFacts n i stored sent → VolatileFacts n i stored sent volatile →
      AreAnswers new → Sends n i stored sent new → TransitionFacts n i stored sent (only_sends volatile new)
  unfolding only_sends store
  sends_facts volatile new facts at_work answers sends = record {
    stored = facts;
    sends = sends;
    volatile = VolatileFacts-longer sent new n i stored volatile (λ b of_i. answers_unasked new b answers) at_work;
    asks = answers_ask i volatile new answers;
    rounds = le_refl stored.tried;
    prepares = λ s b is_in. absurd (answers_unprepared new s b answers is_in);
  }

  pub stores_facts : (volatile : VolatileState V) (r : Record V) (m : Message V) → stored.tried ≤ (with_record stored r).tried → DurableFacts n i (with_record stored r) sent →
      VolatileFacts n i (with_record stored r) sent volatile → IsAnswer m → MaySend n i (with_record stored r) sent m → TransitionFacts n i stored sent (stores volatile r m)
  unfolding stores store
  stores_facts volatile r m rises facts at_work answer may = record {
    stored = facts;
    sends = (may, tt);
    volatile = VolatileFacts-longer sent (m ∷ []) n i (with_record stored r) volatile (λ b of_i. answers_unasked (m ∷ []) b (answer, tt)) at_work;
    asks = answers_ask i volatile (m ∷ []) (answer, tt);
    rounds = rises;
    prepares = λ s b is_in. absurd (answers_unprepared (m ∷ []) s b (answer, tt) is_in);
  }

module _ {V : Type 0} (n i : ℕ) (stored : DurableState V) (volatile : VolatileState V) (sent : List (Message V)) (facts : NodeFacts n i stored volatile sent) where
  -- ---- what is published is sent

  pub reported_facts : (s : ℕ) → TransitionFacts n i stored sent (only_sends volatile (reports stored.history s))
  reported_facts s =
      let are : AreReported n sent (reports stored.history s) = reported_are_reported n sent stored.history facts.stored.chosen s in
      sends_facts n i stored sent volatile (reports stored.history s) facts.stored facts.volatile
      (reported_answers n sent (reports stored.history s) are) (reported_sends n i stored sent (reports stored.history s) facts.is_node are)

  pub ask_facts : (s : ℕ) → TransitionFacts n i stored sent (on_ask stored volatile s)
  unfolding on_ask
  ask_facts s =
      let are : AreReported n sent (reports_from stored.history s most_reports) = reported_from_are_reported n sent stored.history facts.stored.chosen s most_reports in
      sends_facts n i stored sent volatile (reports_from stored.history s most_reports) facts.stored facts.volatile
      (reported_answers n sent (reports_from stored.history s most_reports) are) (reported_sends n i stored sent (reports_from stored.history s most_reports) facts.is_node are)

  -- ---- a ballot that comes too late is answered with a Nack, with the promise

  -- Both ballots of a Nack are in messages: the late one in its own, the promise's in the request
  -- for it.
  nack_facts : (s : ℕ) (b : Ballot) (promise : Option Ballot) → Stands sent b → stored.promise ≡ promise → is_rejected promise b ≡ true →
      TransitionFacts n i stored sent (only_sends volatile (nack i s b promise))
  nack_facts s b None stands promise refused = absurd (false≢true refused)
  nack_facts s b (Some q) stands promise refused =
      let may : MaySend n i stored sent (Nack i s b q) = record {
        is_node = facts.is_node;
        known = λ c is_in. elim is_in [
          | inl e ↦ inr (subst (Stands sent) (sym e) stands)
          | inr (inl e) ↦ inr (subst (Stands sent) (sym e) (facts.stored.promise_stands q promise))
          | inr (inr k) ↦ absurd k
        ];
        meet = tt;
      } in
      sends_facts n i stored sent volatile (Nack i s b q ∷ []) facts.stored facts.volatile (tt, tt) (may, tt)

  -- ---- a promise

  -- a vote within the promise is below the ballot that exceeds that promise
  lower_vote : (promise : Option Ballot) (b c : Ballot) → is_above promise b ≡ true → NotBelow promise c → below c b ≡ true
  lower_vote None b c h k = absurd k
  lower_vote (Some q) b c h k = not_below-below c q b k h

  vote_known : (s : ℕ) (vote : Option (Vote V)) → stored.votes s ≡ vote → (c : Ballot) → IsIn c (vote_ballots vote) → Stands sent c
  vote_known s None e c is_in = absurd is_in
  vote_known s (Some v) e c (inl h) = record { message = Accept s v.ballot v.definition; was_sent = facts.stored.vote_asked s v e; is_in = inl h }
  vote_known s (Some v) e c (inr h) = absurd h

  votes_known : (s count : ℕ) (c : Ballot) → IsIn c (votes_ballots (votes_from stored.votes s count)) → Stands sent c
  unfolding votes_from
  votes_known s zero c is_in = absurd is_in
  votes_known s (suc count) c is_in = elim (cases_Bool (nat_le s last_sequence)) [
    | inl e ↦ (let is_in' : IsIn c (vote_ballots (stored.votes s) ++ votes_ballots (votes_from stored.votes (suc s) count)) = rw e at is_in in
        elim (member-parts c (vote_ballots (stored.votes s)) (votes_ballots (votes_from stored.votes (suc s) count)) is_in') [
          | inl h ↦ vote_known s (stored.votes s) refl c h
          | inr h ↦ votes_known (suc s) count c h
        ])
    | inr e ↦ absurd (rw e at is_in)
  ]

  -- what is reported from s on is of its window
  reported_within : (votes : ℕ → Option (Vote V)) (s count t : ℕ) (vote : Option (Vote V)) → Reports s (votes_from votes s count) t vote →
      (s ≤ t) × (t < s + count) × (t ≤ last_sequence)
  unfolding votes_from
  reported_within votes s zero t vote h = absurd h
  reported_within votes s (suc count) t vote h = elim (cases_Bool (nat_le s last_sequence)) [
    | inl e ↦ (let h' : ((t ≡ s) × (votes s ≡ vote)) ⊎ Reports (suc s) (votes_from votes (suc s) count) t vote = rw e at h in
        elim h' [
          | inl here ↦ (let same : t ≡ s = here.0 in let is_sequence : s ≤ last_sequence = leb-true s last_sequence e in (omega arith, omega arith, omega arith))
          | inr later ↦ (let next : (suc s ≤ t) × (t < suc s + count) × (t ≤ last_sequence) = reported_within votes (suc s) count t vote later in
              let from : suc s ≤ t = next.0 in
              let before : t < suc s + count = next.1 in
              (omega arith, omega arith, next.2))
        ])
    | inr e ↦ absurd (rw e at h)
  ]

  -- the votes that this node reports from s on
  abbrev reported : ℕ → List (Option (Vote V))
  reported s = votes_from stored.votes s window

  -- A Promise is sent after its record: the new promise isn't below its ballot; the reported votes
  -- are the stored ones, none of which is below any vote that this node sent at that sequence, and
  -- all of which are below the ballot that it now promises.
  promise_may : (s : ℕ) (b : Ballot) → published stored < s → is_above stored.promise b ≡ true → IsIn (Prepare s b) sent → Stands sent b →
      MaySend n i (with_promise stored b) sent (Promise i s b (reported s))
  promise_may s b is_open lower is_sent stands = record {
    is_node = facts.is_node;
    known = λ c is_in. elim is_in [ inl e ↦ inr (subst (Stands sent) (sym e) stands) | inr h ↦ inr (votes_known s window c h) ];
    meet = record {
      own = refl;
      promise = raised-reached stored.promise b;
      requested = is_sent;
      reports = λ t vote h c is_in.
          let own : (s ≤ t) × (stored.votes t ≡ vote) = own_reported stored.votes s window t vote h in
          let from : s ≤ t = own.0 in
          subst (λ o. VoteNotBelow o c) own.1 (facts.stored.voted t c is_in (omega arith));
      asked = λ t v h. let own : (s ≤ t) × (stored.votes t ≡ Some v) = own_reported stored.votes s window t (Some v) h in facts.stored.vote_asked t v own.1;
      lower = λ t v h.
          let own : (s ≤ t) × (stored.votes t ≡ Some v) = own_reported stored.votes s window t (Some v) h in
          lower_vote stored.promise b v.ballot lower (facts.stored.vote_within t v own.1);
      whole = λ t in_window. (stored.votes t, all_reported stored.votes s window t in_window.from_base in_window.before_end in_window.is_sequence);
      within = λ t vote h. let of : (s ≤ t) × (t < s + window) × (t ≤ last_sequence) = reported_within stored.votes s window t vote h in
          record { from_base = of.0; before_end = of.1; is_sequence = of.2 };
    };
  }

  promise_to_facts : (s : ℕ) (b : Ballot) → published stored < s → is_above stored.promise b ≡ true → IsIn (Prepare s b) sent →
      TransitionFacts n i stored sent (promise_to i stored volatile s b)
  unfolding promise_to published
  promise_to_facts s b is_open lower is_sent =
      let stands : Stands sent b = record { message = Prepare s b; was_sent = is_sent; is_in = inl refl } in
      let e : with_promise stored b ≡ with_record stored (Promised s b) = sym (is_promised stored s b) in
      stores_facts n i stored sent volatile (Promised s b) (Promise i s b (reported s)) (promised-tried stored s b)
      (store_promised n i stored sent s b stands facts.stored)
      (subst (λ x. VolatileFacts n i x sent volatile) e (VolatileFacts-stored n i stored (with_promise stored b) sent refl refl volatile facts.volatile))
      tt (subst (λ x. MaySend n i x sent (Promise i s b (reported s))) e (promise_may s b is_open lower is_sent stands))

  -- the answer to a Prepare of an open sequence, by how its ballot compares with the promise
  prepare_open_facts : (s : ℕ) (b : Ballot) (promise : Option Ballot) (above refused : Bool) → published stored < s → stored.promise ≡ promise → IsIn (Prepare s b) sent →
      is_above promise b ≡ above → is_rejected promise b ≡ refused → TransitionFacts n i stored sent (prepare_open i stored volatile s b promise)
  unfolding prepare_open
  prepare_open_facts s b promise true refused is_open is_promise is_sent e h =
      rw e (promise_to_facts s b is_open (subst (λ o. is_above o b ≡ true) (sym is_promise) e) is_sent)
  prepare_open_facts s b promise false true is_open is_promise is_sent e h =
      rw (e, h) (nack_facts s b promise (record { message = Prepare s b; was_sent = is_sent; is_in = inl refl }) is_promise h)
  prepare_open_facts s b promise false false is_open is_promise is_sent e h = rw (e, h) (quiet_facts n i stored sent volatile facts.stored facts.volatile)

  prepare_by : (s : ℕ) (b : Ballot) (is_published : Bool) → nat_le s (published stored) ≡ is_published → IsIn (Prepare s b) sent → TransitionFacts n i stored sent (on_prepare i stored volatile s b)
  unfolding on_prepare
  prepare_by s b true e is_sent = rw e (reported_facts s)
  prepare_by s b false e is_sent =
      let promise : Option Ballot = stored.promise in
      rw e (prepare_open_facts s b promise (is_above promise b) (is_rejected promise b) (leb-false s (published stored) e) refl is_sent refl refl)

  pub prepare_facts : (s : ℕ) (b : Ballot) → IsIn (Prepare s b) sent → TransitionFacts n i stored sent (on_prepare i stored volatile s b)
  prepare_facts s b is_sent = prepare_by s b (nat_le s (published stored)) refl is_sent

  -- ---- a vote

  -- no promise of this node for an open sequence is above a ballot that its present one isn't above
  kept_order : (s : ℕ) (b : Ballot) → published stored < s → is_rejected stored.promise b ≡ false → (t : ℕ) (c : Ballot) (votes : List (Option (Vote V))) →
      IsIn (Promise i t c votes) sent → IsInWindow t s → below b c ≡ false
  kept_order s b is_open lower t c votes is_in in_window = accepted_order stored.promise b c lower (facts.stored.promised t c votes is_in s in_window is_open)

  accept_known : (s : ℕ) (b : Ballot) (d : V) (kept : DurableState V) → IsIn (Accept s b d) sent → (c : Ballot) → IsIn c (b ∷ []) → IsKnown i kept sent c
  accept_known s b d kept is_sent c (inl e) = inr (record { message = Accept s b d; was_sent = is_sent; is_in = inl e })
  accept_known s b d kept is_sent c (inr k) = absurd k

  -- the answer is sent again if the vote is at this ballot
  again_facts : (s : ℕ) (b : Ballot) (d : V) (v : Vote V) → published stored < s → is_rejected (stored.promise) b ≡ false → stored.votes s ≡ Some v → v.ballot ≡ b →
      IsIn (Accept s b d) sent → TransitionFacts n i stored sent (only_sends volatile (Accepted i s b ∷ []))
  again_facts s b d v is_open lower vote same is_sent =
      let may : MaySend n i stored sent (Accepted i s b) = record {
        is_node = facts.is_node;
        known = accept_known s b d stored is_sent;
        meet = record {
          own = refl;
          promise = subst (NotBelow (stored.promise)) same (facts.stored.vote_within s v vote);
          kept = lower;
          vote = subst (λ o. VoteNotBelow o b) (sym vote) (subst (λ c. below c b ≡ false) (sym same) (below-irreflexive b));
          order = kept_order s b is_open lower;
          answered = record { definition = d; asked = is_sent };
        };
      } in
      sends_facts n i stored sent volatile (Accepted i s b ∷ []) facts.stored facts.volatile (tt, tt) (may, tt)

  -- A vote is sent after its record: the promise isn't below its ballot then, the vote is at it,
  -- and no promise of this node is above it.
  vote_may : (s : ℕ) (b : Ballot) (d : V) → published stored < s → is_rejected (stored.promise) b ≡ false → IsIn (Accept s b d) sent →
      MaySend n i (with_vote stored s b d) sent (Accepted i s b)
  vote_may s b d is_open lower is_sent = record {
    is_node = facts.is_node;
    known = accept_known s b d (with_vote stored s b d) is_sent;
    meet = record {
      own = refl;
      promise = raised-reached stored.promise b;
      kept = raised_not_rejected stored.promise b lower;
      vote = subst (λ o. VoteNotBelow o b) (sym (put-same stored.votes s (Some (record { ballot = b; definition = d })) s refl)) (below-irreflexive b);
      order = kept_order s b is_open lower;
      answered = record { definition = d; asked = is_sent };
    };
  }

  anew_facts : (s : ℕ) (b : Ballot) (d : V) → published stored < s → is_rejected (stored.promise) b ≡ false → IsIn (Accept s b d) sent →
      TransitionFacts n i stored sent (stores volatile (stored_part.Accepted s b d) (Accepted i s b))
  unfolding published
  anew_facts s b d is_open lower is_sent =
      let e : with_vote stored s b d ≡ with_record stored (stored_part.Accepted s b d) = sym (is_accepted stored s b d is_open) in
      stores_facts n i stored sent volatile (stored_part.Accepted s b d) (Accepted i s b) (accepted-tried stored s b d)
      (store_accepted n i stored sent s b d is_open lower is_sent facts.stored)
      (subst (λ x. VolatileFacts n i x sent volatile) e (VolatileFacts-stored n i stored (with_vote stored s b d) sent refl refl volatile facts.volatile))
      tt (subst (λ x. MaySend n i x sent (Accepted i s b)) e (vote_may s b d is_open lower is_sent))

  voted_by : (s : ℕ) (b : Ballot) (d : V) (vote : Option (Vote V)) (again : Bool) → published stored < s → is_rejected (stored.promise) b ≡ false → IsIn (Accept s b d) sent →
      stored.votes s ≡ vote → votes_at vote b ≡ again → TransitionFacts n i stored sent (vote_for i stored volatile s b d)
  unfolding vote_for votes_at
  voted_by s b d None true is_open lower is_sent vote e = absurd (false≢true e)
  voted_by s b d (Some v) true is_open lower is_sent vote e =
      rw (vote, e) (again_facts s b d v is_open lower vote (same_ballot-true v.ballot b e) is_sent)
  voted_by s b d vote false is_open lower is_sent is_vote e = rw (is_vote, e) (anew_facts s b d is_open lower is_sent)

  vote_facts : (s : ℕ) (b : Ballot) (d : V) → published stored < s → is_rejected (stored.promise) b ≡ false → IsIn (Accept s b d) sent →
      TransitionFacts n i stored sent (vote_for i stored volatile s b d)
  vote_facts s b d is_open lower is_sent = voted_by s b d (stored.votes s) (votes_at (stored.votes s) b) is_open lower is_sent refl refl

  -- the answer to an Accept of an open sequence, by how its ballot compares with the promise
  accept_open_facts : (s : ℕ) (b : Ballot) (d : V) (promise : Option Ballot) (refused : Bool) → published stored < s → stored.promise ≡ promise → IsIn (Accept s b d) sent →
      is_rejected promise b ≡ refused → TransitionFacts n i stored sent (accept_open i stored volatile s b d promise)
  unfolding accept_open
  accept_open_facts s b d promise true is_open is_promise is_sent e =
      rw e (nack_facts s b promise (record { message = Accept s b d; was_sent = is_sent; is_in = inl refl }) is_promise e)
  accept_open_facts s b d promise false is_open is_promise is_sent e =
      rw e (vote_facts s b d is_open (subst (λ o. is_rejected o b ≡ false) (sym is_promise) e) is_sent)

  accept_by : (s : ℕ) (b : Ballot) (d : V) (is_published : Bool) → nat_le s (published stored) ≡ is_published → IsIn (Accept s b d) sent →
      TransitionFacts n i stored sent (on_accept i stored volatile s b d)
  unfolding on_accept
  accept_by s b d true e is_sent = rw e (reported_facts s)
  accept_by s b d false e is_sent =
      let promise : Option Ballot = stored.promise in
      rw e (accept_open_facts s b d promise (is_rejected promise b) (leb-false s (published stored) e) refl is_sent refl)

  pub accept_facts : (s : ℕ) (b : Ballot) (d : V) → IsIn (Accept s b d) sent → TransitionFacts n i stored sent (on_accept i stored volatile s b d)
  accept_facts s b d is_sent = accept_by s b d (nat_le s (published stored)) refl is_sent
