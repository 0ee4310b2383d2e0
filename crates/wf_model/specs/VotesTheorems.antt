-- Lists of votes: what they report, the better ones of two, and those that a node reports.
use Rattle.std.proofs.Common.{◌≡◌, ◌⊎◌, ℕ, zero, suc, ◌+◌, ◌<◌, ◌≤◌, ◌==◌, nat_le, List, [], ◌∷◌, length, Option, Some, None, refl, sym, subst, ap, inl, inr, arith, eqb-true, eq-eqb, ne_eqb, le-leb}
use Rattle.std.proofs.lemmas.Bool.{cases_Bool, cases_eq}
use Rattle.std.proofs.lemmas.Option.{none-some}
use Rattle.wf_ballot.specs.Sequence.{last_sequence}
use Rattle.wf_model.specs.Message.{Vote, first_vote, from_sequence, vote_of}
use Rattle.wf_model.specs.VolatileState.{better, better_each}
use Rattle.wf_model.specs.Table.{sequences_from, votes_from}
use Rattle.wf_model.specs.Chosen.{Reports}

-- ---- what a list reports

-- a list reports the vote that it has at a sequence
pub reports_vote : {V : Type 0} (base : ℕ) (votes : List (Option (Vote V))) (s : ℕ) (vote : Vote V) → vote_of base votes s ≡ Some vote → Reports base votes s (Some vote)
unfolding first_vote from_sequence
reports_vote base [] s vote h = absurd (none-some vote h)
reports_vote base (first ∷ rest) s vote h = elim (cases_Bool (s == base)) [
  | inl e ↦ inl (eqb-true s base e, rw e at h)
  | inr e ↦ inr (reports_vote (suc base) rest s vote (rw e at h))
]

-- what a list reports for a sequence is its vote there, and the sequence isn't before its first one
pub record IsItsVote {V : Type 0} (base : ℕ) (votes : List (Option (Vote V))) (s : ℕ) (vote : Option (Vote V)) : Type 0 where
  pub from_base : base ≤ s
  pub is_it : vote_of base votes s ≡ vote

pub reported_vote : {V : Type 0} (base : ℕ) (votes : List (Option (Vote V))) (s : ℕ) (vote : Option (Vote V)) → Reports base votes s vote → IsItsVote base votes s vote
unfolding first_vote from_sequence
reported_vote base [] s vote h = absurd h
reported_vote base (first ∷ rest) s vote (inl (same, is_it)) = record { from_base = omega arith; is_it = rw (eq-eqb s base same) is_it }
reported_vote base (first ∷ rest) s vote (inr h) =
    let later : IsItsVote (suc base) rest s vote = reported_vote (suc base) rest s vote h in
    let from : suc base ≤ s = later.from_base in
    record { from_base = omega arith; is_it = rw (ne_eqb s base (λ same. absurd (omega arith))) later.is_it }

-- the first vote of a list is that at its first sequence
pub first_vote-of : {V : Type 0} (base : ℕ) (votes : List (Option (Vote V))) → vote_of base votes base ≡ first_vote votes
unfolding first_vote from_sequence
first_vote-of base [] = refl
first_vote-of base (first ∷ rest) = rw (eq-eqb base base refl) refl

-- ---- the better votes

better-none : {V : Type 0} (best : Option (Vote V)) → better best None ≡ best
unfolding better
better-none None = refl
better-none (Some best) = refl

pub vote_of-better : {V : Type 0} (base : ℕ) (best votes : List (Option (Vote V))) (s : ℕ) →
    vote_of base (better_each best votes) s ≡ better (vote_of base best s) (vote_of base votes s)
unfolding first_vote from_sequence better better_each
vote_of-better base [] votes s = refl
vote_of-better base (first ∷ rest) [] s = sym (better-none (vote_of base (first ∷ rest) s))
vote_of-better base (first ∷ rest) (vote ∷ votes) s = elim (cases_Bool (s == base)) [
  | inl e ↦ rw e refl
  | inr e ↦ rw e (vote_of-better (suc base) rest votes s)
]

-- ---- what a node reports

-- each vote reported is the node's
pub own_reported : {V : Type 0} (votes : ℕ → Option (Vote V)) (base count s : ℕ) (vote : Option (Vote V)) → Reports base (votes_from votes base count) s vote →
    (base ≤ s) × (votes s ≡ vote)
unfolding votes_from
own_reported votes base zero s vote h = absurd h
own_reported votes base (suc count) s vote h = elim (cases_Bool (nat_le base last_sequence)) [
  | inl e ↦ (let h' : ((s ≡ base) × (votes base ≡ vote)) ⊎ Reports (suc base) (votes_from votes (suc base) count) s vote = rw e at h in
      elim h' [
        | inl here ↦ (let same : s ≡ base = here.0 in (omega arith, subst (λ k. votes k ≡ vote) (sym same) here.1))
        | inr later ↦ (let next : (suc base ≤ s) × (votes s ≡ vote) = own_reported votes (suc base) count s vote later in
            let from : suc base ≤ s = next.0 in (omega arith, next.1))
      ])
  | inr e ↦ absurd (rw e at h)
]

-- a node reports its votes at all of the sequences, as far as there are sequences
pub all_reported : {V : Type 0} (votes : ℕ → Option (Vote V)) (base count s : ℕ) → base ≤ s → s < base + count → s ≤ last_sequence →
    Reports base (votes_from votes base count) s (votes s)
unfolding votes_from
all_reported votes base zero s from before last = absurd (omega arith)
all_reported votes base (suc count) s from before last =
    rw (le-leb base last_sequence (omega arith)) (elim (cases_eq s base) [
      | inl same ↦ inl (same, ap votes (sym same))
      | inr differs ↦ inr (all_reported votes (suc base) count s (omega arith) (omega arith) last)
    ])

-- a vote or none for each sequence
pub length-votes_from : {V : Type 0} (votes : ℕ → Option (Vote V)) (s count : ℕ) → length (votes_from votes s count) ≡ sequences_from s count
unfolding votes_from sequences_from
length-votes_from votes s zero = refl
length-votes_from votes s (suc count) = elim (cases_Bool (nat_le s last_sequence)) [
  | inl e ↦ rw e (ap suc (length-votes_from votes (suc s) count))
  | inr e ↦ rw e refl
]
