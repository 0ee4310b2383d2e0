-- The votes that a promise reports.
use Rattle.std.proofs.Common.{◌≡◌, ℕ, zero, suc, ◌+◌, ◌-◌, ◌<◌, ◌≤◌, true, false, nat_le, List, [], ◌∷◌, ◌++◌, length, Option, Result, Ok, Err, OnOk, true≢false, refl, sym, subst, ap, ◌∙◌, append_assoc, append-nil, inl, inr, arith, le-leb}
use Rattle.std.proofs.lemmas.Bool.{cases_Bool, cases_lt, lt-leb}
use Rattle.std.specs.Ordering.{nat_cmp}
use Rattle.std.specs.FinMap.{FinMap, get}
use Rattle.wf_ballot.specs.Ballot.{Ballot}
use Rattle.wf_ballot.specs.Sequence.{last_sequence, IsSlot}
use Rattle.wf_model.specs.Message.{Vote}
use Rattle.wf_model.specs.Table.{sequences_from, votes_from}
use Rattle.wf_def.specs.Definition.{Definition}
use Rattle.wf_codec.specs.Message.{view_vote, view_votes}
use Rattle.wf_acceptor.specs.Prepared.{reported}

-- They are those of the step table.
pub as_reported : (votes : FinMap nat_cmp (Ballot × Definition)) (s count : ℕ) → view_votes (reported votes s count) ≡ votes_from (λ t. view_vote (get votes t)) s count
unfolding reported votes_from
as_reported votes s zero = refl
as_reported votes s (suc count) = elim (cases_Bool (nat_le s last_sequence)) [
  | inl e ↦ rw e (ap (λ (rest : List (Option (Vote Definition))). view_vote (get votes s) ∷ rest) (as_reported votes (suc s) count))
  | inr e ↦ rw e refl
]

-- There is a vote or none for each slot.
pub as_many_reported : (votes : FinMap nat_cmp (Ballot × Definition)) (s count : ℕ) → length (reported votes s count) ≡ sequences_from s count
unfolding reported sequences_from
as_many_reported votes s zero = refl
as_many_reported votes s (suc count) = elim (cases_Bool (nat_le s last_sequence)) [
  | inl e ↦ rw e (ap suc (as_many_reported votes (suc s) count))
  | inr e ↦ rw e refl
]

-- ---- slot by slot

first_reported : (votes : FinMap nat_cmp (Ballot × Definition)) (s count : ℕ) → s ≤ last_sequence → reported votes s (suc count) ≡ get votes s ∷ reported votes (suc s) count
unfolding reported
first_reported votes s count within = rw (le-leb s last_sequence within) refl

-- The slot's vote comes first, then those from the next slot on.
reported_then : (votes : FinMap nat_cmp (Ballot × Definition)) (s count : ℕ) → 1 ≤ count → s ≤ last_sequence → reported votes s count ≡ get votes s ∷ reported votes (suc s) (count - 1)
reported_then votes s count some within =
    let before : suc (count - 1) ≡ count = omega arith in
    subst (λ (n : ℕ). reported votes s n ≡ get votes s ∷ reported votes (suc s) (count - 1)) before (first_reported votes s (count - 1) within)

-- Behind the last slot there are none.
reported_behind : (votes : FinMap nat_cmp (Ballot × Definition)) (s count : ℕ) → last_sequence < s → reported votes s count ≡ []
unfolding reported
reported_behind votes s zero behind = refl
reported_behind votes s (suc count) behind = rw (lt-leb s last_sequence behind) refl

-- ---- copies of the votes so far, and those still to come

abbrev Copies : Type 0
Copies = List (Option (Ballot × Definition))

pub nothing_more : (votes : FinMap nat_cmp (Ballot × Definition)) (s count : ℕ) (copies : Copies) → count ≡ 0 → copies ≡ copies ++ reported votes s count
unfolding reported
nothing_more votes s count copies none = rw none (sym (append-nil copies))

-- the slot's vote is appended, and then those from the next slot on
appended : (votes : FinMap nat_cmp (Ballot × Definition)) (s next count : ℕ) (copies pushed : Copies) (vote : Option (Ballot × Definition)) → s ≤ last_sequence → next ≡ suc s → 1 ≤ count →
    vote ≡ get votes s → pushed ≡ copies ++ vote ∷ [] → pushed ++ reported votes next (count - 1) ≡ copies ++ reported votes s count
appended votes s next count copies pushed vote within is_next some is_vote is_pushed =
    rw (is_pushed, is_next, reported_then votes s count some within, is_vote) (append_assoc copies (get votes s ∷ []) (reported votes (suc s) (count - 1)))

pub one_more : {T E : Type 0} (r : Result T E) (votes : FinMap nat_cmp (Ballot × Definition)) (s next count : ℕ) (copies pushed new : Copies) (vote : Option (Ballot × Definition)) →
    s ≤ last_sequence → next ≡ suc s → 1 ≤ count → vote ≡ get votes s → pushed ≡ copies ++ vote ∷ [] → OnOk r (new ≡ pushed ++ reported votes next (count - 1)) →
    OnOk r (new ≡ copies ++ reported votes s count)
one_more (Ok x) votes s next count copies pushed new vote within is_next some is_vote is_pushed is =
    is ∙ appended votes s next count copies pushed vote within is_next some is_vote is_pushed
one_more (Err e) votes s next count copies pushed new vote within is_next some is_vote is_pushed is = tt

-- a slot without a next one is the last
last_slot : (s : ℕ) → s ≤ last_sequence → (IsSlot (s + 1) → false ≡ true) → s ≡ last_sequence
last_slot s within no_next = elim (cases_lt s last_sequence) [
  | inl less ↦ absurd (true≢false (sym (no_next (record { from_one = omega arith; to_last = omega arith }))))
  | inr not_less ↦ omega arith
]

-- its vote is all that is appended
pub last_more : (votes : FinMap nat_cmp (Ballot × Definition)) (s count : ℕ) (copies pushed : Copies) (vote : Option (Ballot × Definition)) → s ≤ last_sequence →
    (IsSlot (s + 1) → false ≡ true) → 1 ≤ count → vote ≡ get votes s → pushed ≡ copies ++ vote ∷ [] → pushed ≡ copies ++ reported votes s count
last_more votes s count copies pushed vote within no_next some is_vote is_pushed =
    let last : s ≡ last_sequence = last_slot s within no_next in
    rw (is_pushed, reported_then votes s count some within, reported_behind votes (suc s) (count - 1) (omega arith), is_vote) refl
