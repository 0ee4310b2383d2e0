-- A record is stored, no message is sent, and what its node stored keeps its facts. This is a crash
-- within a step too.
use Rattle.std.proofs.Common.{◌≡◌, ◌⊎◌, ℕ, zero, suc, ◌+◌, ◌<◌, ◌≤◌, Bool, true, false, cond, nat_lt, le_refl, List, [], ◌∷◌, ◌++◌, length, slice_get, Option, Some, None, refl, sym, ap, subst, inl, inr, arith, length-append, lt-ltb}
use Rattle.std.proofs.lemmas.Option.{none-some, same_Some}
use Rattle.wf_ballot.specs.Ballot.{Ballot, below}
use Rattle.wf_ballot.specs.OrderTheorems.{below-irreflexive, not_below-transitive}
use Rattle.wf_model.specs.Message.{Vote, Message, Accept}
use Rattle.wf_model.specs.DurableState.{DurableState, Record, Tried, Promised, Accepted, Published, published, next_sequence, definition_at, put, raised, with_record}
use Rattle.wf_model.specs.Fits.{NotBelow}
use Rattle.wf_model.specs.Table.{is_rejected}
use Rattle.wf_model.specs.Chosen.{IsIn, IsChosen}
use Rattle.wf_model.specs.PutTheorems.{at_put}
use Rattle.wf_model.specs.RaisedTheorems.{raised-reached, raised-kept, raised-either}
use Rattle.wf_safety.specs.Theorems.{VoteNotBelow}
use Rattle.wf_safety.proofs.Facts.{Stands, IsAsked, IsNext, DurableFacts}

-- ---- promises rise

-- a ballot that the promise isn't above is above no ballot that it reached
pub accepted_order : (promise : Option Ballot) (b c : Ballot) → is_rejected promise b ≡ false → NotBelow promise c → below b c ≡ false
accepted_order None b c h k = absurd k
accepted_order (Some q) b c h k = not_below-transitive c q b k h

-- ---- the published list grows

get-last : {A : Type 0} (xs : List A) (x : A) (k : ℕ) (y : A) → slice_get (xs ++ x ∷ []) k ≡ Some y → (slice_get xs k ≡ Some y) ⊎ ((k ≡ length xs) × (x ≡ y))
get-last [] x zero y e = inr (refl, same_Some x y e)
get-last [] x (suc k) y e = absurd (none-some y e)
get-last (z ∷ xs) x zero y e = inl e
get-last (z ∷ xs) x (suc k) y e = moved (get-last xs x k y e)
  where
    moved : (slice_get xs k ≡ Some y) ⊎ ((k ≡ length xs) × (x ≡ y)) → (slice_get xs k ≡ Some y) ⊎ ((suc k ≡ suc (length xs)) × (x ≡ y))
    moved (inl h) = inl h
    moved (inr h) = inr (ap suc h.0, h.1)

definition_at-last : {V : Type 0} (history : List V) (d : V) (t : ℕ) (e : V) → definition_at (history ++ d ∷ []) t ≡ Some e →
    (definition_at history t ≡ Some e) ⊎ ((t ≡ length history + 1) × (d ≡ e))
unfolding definition_at
definition_at-last history d zero e h = inl h
definition_at-last history d (suc k) e h = moved (get-last history d k e h)
  where
    moved : (slice_get history k ≡ Some e) ⊎ ((k ≡ length history) × (d ≡ e)) → (slice_get history k ≡ Some e) ⊎ ((suc k ≡ length history + 1) × (d ≡ e))
    moved (inl old) = inl old
    moved (inr new) = inr (omega arith, new.1)

-- the durable state with a promise, and that this is what the record makes of it
abbrev pub with_promise : {V : Type 0} → DurableState V → Ballot → DurableState V
with_promise stored b = record stored { promise = raised stored.promise b }

pub is_promised : {V : Type 0} (stored : DurableState V) (s : ℕ) (b : Ballot) → with_record stored (Promised s b) ≡ with_promise stored b
unfolding with_record
is_promised stored s b = refl

-- the durable state with a vote, and that this is what the record makes of it
abbrev pub with_vote : {V : Type 0} → DurableState V → ℕ → Ballot → V → DurableState V
with_vote stored s b d = record stored { promise = raised stored.promise b; votes = put stored.votes s (Some (record { ballot = b; definition = d })) }

pub is_accepted : {V : Type 0} (stored : DurableState V) (s : ℕ) (b : Ballot) (d : V) → published stored < s → with_record stored (Accepted s b d) ≡ with_vote stored s b d
unfolding with_record
is_accepted stored s b d is_open = rw (lt-ltb (published stored) s is_open) refl

-- one more definition is published
pub published-more : {V : Type 0} (stored : DurableState V) (s : ℕ) (d : V) → published (with_record stored (Published s d)) ≡ published stored + 1
unfolding published with_record
published-more stored s d = length-append stored.history (d ∷ [])

-- ---- rounds and promises never fall

-- a promise that the ballot isn't below is raised to that ballot, which isn't below itself
pub raised_not_rejected : (promise : Option Ballot) (b : Ballot) → is_rejected promise b ≡ false → is_rejected (raised promise b) b ≡ false
unfolding raised
raised_not_rejected None b h = below-irreflexive b
raised_not_rejected (Some q) b h = by_below (below q b) refl
  where
    by_below : (is_below : Bool) → below q b ≡ is_below → is_rejected (cond is_below (Some b) (Some q)) b ≡ false
    by_below true e = below-irreflexive b
    by_below false e = h

module _ {V : Type 0} (stored : DurableState V) where
  accepted_record : (s : ℕ) (b : Ballot) (d : V) (P : DurableState V → Type 0) → P (with_vote stored s b d) → P stored → P (with_record stored (Accepted s b d))
  unfolding with_record
  accepted_record s b d P voted same = by_open (nat_lt (published stored) s)
    where
      by_open : (is_open : Bool) → P (cond is_open (with_vote stored s b d) stored)
      by_open true = voted
      by_open false = same

  -- a record other than Tried leaves the round
  pub promised-tried : (s : ℕ) (b : Ballot) → stored.tried ≤ (with_record stored (Promised s b)).tried
  unfolding with_record
  promised-tried s b = omega arith

  pub accepted-tried : (s : ℕ) (b : Ballot) (d : V) → stored.tried ≤ (with_record stored (Accepted s b d)).tried
  accepted-tried s b d = accepted_record s b d (λ x. stored.tried ≤ x.tried) (le_refl stored.tried) (le_refl stored.tried)

  pub published-tried : (s : ℕ) (d : V) → stored.tried ≡ (with_record stored (Published s d)).tried
  unfolding with_record
  published-tried s d = refl

  -- what the promise wasn't below, it isn't below after any record
  pub promise_kept : (r : Record V) (c : Ballot) → NotBelow stored.promise c → NotBelow (with_record stored r).promise c
  unfolding with_record
  promise_kept (Tried r) c h = h
  promise_kept (Promised s b) c h = raised-kept stored.promise b c h
  promise_kept (Accepted s b d) c h = accepted_record s b d (λ x. NotBelow x.promise c) (raised-kept stored.promise b c h) h
  promise_kept (Published s d) c h = h

-- ---- the next sequence

found : {A : Type 0} (xs : List A) (i : ℕ) → i < length xs → (x : A) × (slice_get xs i ≡ Some x)
found [] i h = absurd (omega arith)
found (x ∷ xs) zero h = (x, refl)
found (x ∷ xs) (suc i) h = found xs i (omega arith)

module _ {V : Type 0} (n i : ℕ) (stored : DurableState V) (sent : List (Message V)) (facts : DurableFacts n i stored sent) where
  pub published_chosen : (t : ℕ) → 1 ≤ t → t < length stored.history + 1 → (d : V) × IsChosen n sent t d
  unfolding definition_at
  published_chosen zero from before = absurd (omega arith)
  published_chosen (suc k) from before = let it = found stored.history k (omega arith) in (it.0, facts.chosen (suc k) it.0 it.1)

  -- all sequences before the next one are chosen, since they are published
  pub next_is_next : IsNext n sent (next_sequence stored)
  unfolding next_sequence published
  next_is_next = record { earlier = λ t from before. published_chosen t from before }

-- ---- the four records

module _ {V : Type 0} (n i : ℕ) (stored : DurableState V) (sent : List (Message V)) where
  -- A higher round is tried: what was within the old one is within it.
  pub store_tried : (r : ℕ) → stored.tried ≤ r → DurableFacts n i stored sent → DurableFacts n i (with_record stored (Tried r)) sent
  unfolding with_record published
  store_tried r higher facts = record {
    tried = λ s b d is_in of_i is_open. let old : b.round ≤ stored.tried = facts.tried s b d is_in of_i is_open in omega arith;
    open_votes = facts.open_votes;
    promised = facts.promised;
    accepted = facts.accepted;
    voted = facts.voted;
    vote_asked = facts.vote_asked;
    vote_within = facts.vote_within;
    promise_stands = facts.promise_stands;
    chosen = facts.chosen;
  }

  -- The promise is raised: what it wasn't below, it isn't below now either.
  promised_facts : (b : Ballot) → Stands sent b → DurableFacts n i stored sent → DurableFacts n i (with_promise stored b) sent
  unfolding published
  promised_facts b stands facts = record {
    tried = facts.tried;
    open_votes = facts.open_votes;
    promised = λ t c votes is_in u in_window is_open. raised-kept stored.promise b c (facts.promised t c votes is_in u in_window is_open);
    accepted = λ t c is_in is_open. raised-kept stored.promise b c (facts.accepted t c is_in is_open);
    voted = facts.voted;
    vote_asked = facts.vote_asked;
    vote_within = λ t vote h. raised-kept stored.promise b vote.ballot (facts.vote_within t vote h);
    promise_stands = λ c h. elim (raised-either stored.promise b c h) [
      | inl same ↦ subst (Stands sent) (sym same) stands
      | inr old ↦ facts.promise_stands c old
    ];
    chosen = facts.chosen;
  }

  pub store_promised : (s : ℕ) (b : Ballot) → Stands sent b → DurableFacts n i stored sent → DurableFacts n i (with_record stored (Promised s b)) sent
  store_promised s b stands facts = subst (λ x. DurableFacts n i x sent) (sym (is_promised stored s b)) (promised_facts b stands facts)

  -- The promise is raised, and at s the vote is at b now, which isn't below the old promise.
  -- Elsewhere no vote changed.
  accepted_facts : (s : ℕ) (b : Ballot) (d : V) → published stored < s → is_rejected stored.promise b ≡ false → IsIn (Accept s b d) sent → DurableFacts n i stored sent →
      DurableFacts n i (with_vote stored s b d) sent
  unfolding published
  accepted_facts s b d is_open lower asked facts =
      let vote : Vote V = record { ballot = b; definition = d } in
      record {
        tried = facts.tried;
        open_votes = λ t closed. at_put (λ o. o ≡ None) stored.votes s (Some vote) t (λ e. absurd (omega arith)) (λ _. facts.open_votes t closed);
        promised = λ t c votes is_in u in_window still. raised-kept stored.promise b c (facts.promised t c votes is_in u in_window still);
        accepted = λ t c is_in still. raised-kept stored.promise b c (facts.accepted t c is_in still);
        voted = λ t c is_in opened.
            at_put (λ o. VoteNotBelow o c) stored.votes s (Some vote) t (λ _. accepted_order stored.promise b c lower (facts.accepted t c is_in opened)) (λ _. facts.voted t c is_in opened);
        vote_asked = λ t v.
            at_put (λ o. o ≡ Some v → IsAsked sent t v) stored.votes s (Some vote) t
            (λ e h. subst (IsAsked sent t) (same_Some vote v h) (subst (λ x. IsIn (Accept x b d) sent) (sym e) asked)) (λ _. facts.vote_asked t v);
        vote_within = λ t v.
            at_put (λ o. o ≡ Some v → NotBelow (raised stored.promise b) v.ballot) stored.votes s (Some vote) t
            (λ e h. subst (λ (x : Vote V). NotBelow (raised stored.promise b) x.ballot) (same_Some vote v h) (raised-reached stored.promise b))
            (λ _ h. raised-kept stored.promise b v.ballot (facts.vote_within t v h));
        promise_stands = λ c h. elim (raised-either stored.promise b c h) [
          | inl same ↦ record { message = Accept s b d; was_sent = asked; is_in = inl same }
          | inr old ↦ facts.promise_stands c old
        ];
        chosen = facts.chosen;
      }

  pub store_accepted : (s : ℕ) (b : Ballot) (d : V) → published stored < s → is_rejected stored.promise b ≡ false → IsIn (Accept s b d) sent → DurableFacts n i stored sent →
      DurableFacts n i (with_record stored (Accepted s b d)) sent
  store_accepted s b d is_open lower asked facts =
      subst (λ x. DurableFacts n i x sent) (sym (is_accepted stored s b d is_open)) (accepted_facts s b d is_open lower asked facts)

  same_sequence : (s t : ℕ) → s ≡ published stored + 1 → t ≡ length stored.history + 1 → s ≡ t
  unfolding published
  same_sequence s t first second = omega arith

  -- The sequence is published, so nothing more is required of its vote, which is removed. The
  -- promise stays, and elsewhere no vote changed; the new definition is chosen.
  pub store_published : (s : ℕ) (d : V) → s ≡ published stored + 1 → IsChosen n sent s d → DurableFacts n i stored sent → DurableFacts n i (with_record stored (Published s d)) sent
  unfolding with_record
  store_published s d is_next is_chosen facts =
      let more : published (with_record stored (Published s d)) ≡ published stored + 1 = published-more stored s d in
      record {
        tried = λ t c e is_in of_i opened. facts.tried t c e is_in of_i (omega arith);
        open_votes = λ t closed. at_put (λ o. o ≡ None) stored.votes s None t (λ e. refl) (λ differs. facts.open_votes t (omega arith));
        promised = λ t c votes is_in u in_window opened. facts.promised t c votes is_in u in_window (omega arith);
        accepted = λ t c is_in opened. facts.accepted t c is_in (omega arith);
        voted = λ t c is_in opened.
            at_put (λ o. VoteNotBelow o c) stored.votes s None t (λ e. absurd (omega arith)) (λ _. facts.voted t c is_in (omega arith));
        vote_asked = λ t v. at_put (λ o. o ≡ Some v → IsAsked sent t v) stored.votes s None t (λ e h. absurd (none-some v h)) (λ _. facts.vote_asked t v);
        vote_within = λ t v. at_put (λ o. o ≡ Some v → NotBelow stored.promise v.ballot) stored.votes s None t (λ e h. absurd (none-some v h)) (λ _. facts.vote_within t v);
        promise_stands = facts.promise_stands;
        chosen = λ t e h. elim (definition_at-last stored.history d t e h) [
          | inl old ↦ facts.chosen t e old
          | inr new ↦ subst (IsChosen n sent t) new.1 (subst (λ x. IsChosen n sent x d) (same_sequence s t is_next new.0) is_chosen)
        ];
      }
