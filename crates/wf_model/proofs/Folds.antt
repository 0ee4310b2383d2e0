-- The fold of records: it has no vote of a published sequence, and no vote above its promise.
use Rattle.std.proofs.Common.{◌≡◌, ℕ, ◌+◌, ◌<◌, nat_lt, Bool, true, false, List, [], ◌∷◌, Some, None, refl, subst, arith, length-append, eqb-true, ltb-true}
use Rattle.std.proofs.lemmas.Option.{none-some, same_Some}
use Rattle.wf_ballot.specs.Ballot.{Ballot}
use Rattle.wf_model.specs.Message.{Vote}
use Rattle.wf_model.specs.DurableState.{DurableState, Record, Tried, Promised, Accepted, Published, nothing_stored, published, next_sequence, raised, with_record, fits, fold_from, fold}
use Rattle.wf_model.specs.Fits.{IsOpenAlone, FoldsAreOpen, NotBelow, VotesArePromised}
use Rattle.wf_model.specs.PutTheorems.{at_put}
use Rattle.wf_model.specs.RaisedTheorems.{raised-kept, raised-reached}

-- ---- what each record preserves, the fold preserves

-- A list of records is folded by its first, if that fits, and the rest.
fold_next : {V : Type 0} (r : Record V) (rest : List (Record V)) (stored folded : DurableState V) (fit : Bool) → fits stored r ≡ fit →
    fold_from stored (r ∷ rest) ≡ Some folded → (fits stored r ≡ true) × (fold_from (with_record stored r) rest ≡ Some folded)
unfolding fold_from
fold_next r rest stored folded true is_fit e = (is_fit, rw is_fit at e)
fold_next r rest stored folded false is_fit e = absurd (none-some folded (rw is_fit at e))

fold_keeps : {V : Type 0} (P : DurableState V → Type 0) → ((stored : DurableState V) → P stored → (r : Record V) → fits stored r ≡ true → P (with_record stored r)) →
    (records : List (Record V)) (stored folded : DurableState V) → P stored → fold_from stored records ≡ Some folded → P folded
unfolding fold_from
fold_keeps P step [] stored folded known e = subst P (same_Some stored folded e) known
fold_keeps P step (r ∷ rest) stored folded known e =
    let (fit, e') = fold_next r rest stored folded (fits stored r) refl e in
    fold_keeps P step rest (with_record stored r) folded (step stored known r fit) e'

-- ---- votes are of open sequences only

module _ {V : Type 0} (stored : DurableState V) (known : IsOpenAlone stored) where
  accepted_open : (s : ℕ) (b : Ballot) (d : V) (is_open : Bool) → nat_lt (published stored) s ≡ is_open → IsOpenAlone (with_record stored (Accepted s b d))
  unfolding with_record published
  accepted_open s b d true e =
      let is_above : published stored < s = ltb-true (published stored) s e in
      rw e (λ t closed.
      at_put (λ o. o ≡ None) stored.votes s (Some (record { ballot = b; definition = d })) t (λ same. absurd (omega arith)) (λ _. known t closed))
  accepted_open s b d false e = rw e known

  published-more : (s : ℕ) (d : V) → published (with_record stored (Published s d)) ≡ published stored + 1
  unfolding with_record published
  published-more s d = length-append stored.history (d ∷ [])

  published_open : (s : ℕ) (d : V) → s ≡ published stored + 1 → IsOpenAlone (with_record stored (Published s d))
  unfolding with_record
  published_open s d is_next =
      let more : published (with_record stored (Published s d)) ≡ published stored + 1 = published-more s d in
      λ t closed. at_put (λ o. o ≡ None) stored.votes s None t (λ same. refl) (λ differs. known t (omega arith))

  record_open : (r : Record V) → fits stored r ≡ true → IsOpenAlone (with_record stored r)
  unfolding with_record fits next_sequence published
  record_open (Tried r) fit = known
  record_open (Promised s b) fit = known
  record_open (Accepted s b d) fit = accepted_open s b d (nat_lt (published stored) s) refl
  record_open (Published s d) fit = published_open s d (eqb-true s (published stored + 1) fit)

pub folds_are_open : (V : Type 0) → FoldsAreOpen V
unfolding fold nothing_stored
folds_are_open V = λ records stored e. fold_keeps IsOpenAlone record_open records nothing_stored stored (λ s closed. refl) e

-- ---- no vote is above the promise

abbrev ArePromised : {V : Type 0} → DurableState V → Type 0
ArePromised {V} stored = (t : ℕ) (vote : Vote V) → stored.votes t ≡ Some vote → NotBelow stored.promise vote.ballot

module _ {V : Type 0} (stored : DurableState V) (known : ArePromised stored) where
  -- The vote comes with a promise that reaches its ballot; what the promise wasn't below, a raised
  -- one isn't below either.
  accepted_kept : (s : ℕ) (b : Ballot) (d : V) (is_open : Bool) → nat_lt (published stored) s ≡ is_open → ArePromised (with_record stored (Accepted s b d))
  unfolding with_record
  accepted_kept s b d true e =
      let vote : Vote V = record { ballot = b; definition = d } in
      rw e (λ t v.
      at_put (λ o. o ≡ Some v → NotBelow (raised stored.promise b) v.ballot) stored.votes s (Some vote) t
      (λ same has. subst (λ (x : Vote V). NotBelow (raised stored.promise b) x.ballot) (same_Some vote v has) (raised-reached stored.promise b))
      (λ differs has. raised-kept stored.promise b v.ballot (known t v has)))
  accepted_kept s b d false e = rw e known

  record_kept : (r : Record V) → fits stored r ≡ true → ArePromised (with_record stored r)
  unfolding with_record
  record_kept (Tried r) fit = known
  record_kept (Promised s b) fit = λ t vote has. raised-kept stored.promise b vote.ballot (known t vote has)
  record_kept (Accepted s b d) fit = accepted_kept s b d (nat_lt (published stored) s) refl
  record_kept (Published s d) fit = λ t vote.
      at_put (λ o. o ≡ Some vote → NotBelow stored.promise vote.ballot) stored.votes s None t (λ same has. absurd (none-some vote has)) (λ differs has. known t vote has)

pub votes_are_promised : (V : Type 0) → VotesArePromised V
unfolding fold nothing_stored
votes_are_promised V = λ records stored s vote e.
    fold_keeps ArePromised record_kept records nothing_stored stored (λ t none has. absurd (none-some none has)) e s vote
