-- The records that are pushed are those of a shortened tape.
use Rattle.std.proofs.Common.{◌≡◌, ℕ, zero, suc, ◌+◌, ◌≤◌, ◌<◌, true, false, List, [], ◌∷◌, ◌++◌, map, length, Option, Some, None, Result, Ok, Err, OnOk, add-one, refl, sym, ap, ◌∙◌, append_assoc, append-nil, arith}
use Rattle.std.proofs.Math.Nat.{min-eq_left, min-eq_right}
use Rattle.std.proofs.lemmas.List.{map-append}
use Rattle.wf_ballot.specs.Ballot.{Ballot, last_round, IsRound}
use Rattle.wf_ballot.specs.Sequence.{last_sequence}
use Rattle.wf_def.specs.Definition.{Definition}
use Rattle.wf_model.specs.Message.{Vote}
use Rattle.wf_model.specs.DurableState.{DurableState, Record, Tried, Promised, Accepted, Published, published, next_sequence, definition_at}
use Rattle.wf_journal.specs.Record.{view}
use Rattle.wf_journal.specs.declared.record.Record as code
use Rattle.wf_node.specs.Compaction.{tried_records, vote_records, is_voted, promised_sequence, promise_record, promise_records, records_by, records_at, records_from}

pub one_more : (before after : List code.Record) (r : code.Record) → after ≡ before ++ r ∷ [] → map view after ≡ map view before ++ view r ∷ []
one_more before after r is = ap (map view) is ∙ map-append view before (r ∷ [])

-- ---- what is appended, if nothing fails

pub appends_as : {A E : Type 0} (result : Result A E) (old new xs ys : List (Record Definition)) → OnOk result (new ≡ old ++ xs) → xs ≡ ys → OnOk result (new ≡ old ++ ys)
appends_as (Ok x) old new xs ys appended same = appended ∙ ap (λ (t : List (Record Definition)). old ++ t) same
appends_as (Err e) old new xs ys appended same = tt

pub appends_none : (old ys : List (Record Definition)) → ys ≡ [] → old ≡ old ++ ys
appends_none old ys none = sym (ap (λ (t : List (Record Definition)). old ++ t) none ∙ append-nil old)

pub appends_both : {A E : Type 0} (result : Result A E) (old mid new xs ys : List (Record Definition)) → mid ≡ old ++ xs → OnOk result (new ≡ mid ++ ys) → OnOk result (new ≡ old ++ (xs ++ ys))
appends_both (Ok x) old mid new xs ys first second = second ∙ ap (λ (t : List (Record Definition)). t ++ ys) first ∙ append_assoc old xs ys
appends_both (Err e) old mid new xs ys first second = tt

-- ---- the last round tried

pub tried_one : (tried round : ℕ) → 1 ≤ tried → round ≡ tried → Tried round ∷ [] ≡ tried_records tried
tried_one zero round from_one is = absurd (omega arith)
tried_one (suc r) round from_one is = ap (λ (t : ℕ). Tried t ∷ []) is

pub none_tried : (tried : ℕ) → tried ≤ last_round → (IsRound tried → ⊥) → tried_records tried ≡ []
none_tried zero short none = refl
none_tried (suc r) short none = absurd (none (record { from_one = omega arith; to_last = short }))

-- ---- a sequence

module _ (stored : DurableState Definition) (s : ℕ) where
  pub published_here : (d : Definition) → definition_at stored.history s ≡ Some d → Published s d ∷ [] ≡ records_at stored s
  unfolding records_at
  published_here d is = sym (ap (λ here. records_by s here (stored.votes s)) is)

  pub open_here : definition_at stored.history s ≡ None → vote_records s (stored.votes s) ≡ records_at stored s
  unfolding records_at
  open_here none = sym (ap (λ here. records_by s here (stored.votes s)) none)

pub voted_here : (s : ℕ) (vote : Option (Vote Definition)) (b : Ballot) (d : Definition) → Some (record { ballot = b; definition = d }) ≡ vote → Accepted s b d ∷ [] ≡ vote_records s vote
voted_here s vote b d is = ap (vote_records s) is

pub none_voted : (s : ℕ) (vote : Option (Vote Definition)) → None ≡ vote → vote_records s vote ≡ []
none_voted s vote none = sym (ap (vote_records s) none)

-- ---- the promise

module _ (stored : DurableState Definition) (promise : Option Ballot) where
  pub promised_here : (b : Ballot) (s : ℕ) → promise ≡ Some b → is_voted stored.votes b last_sequence ≡ false → s ≡ promised_sequence stored →
      Promised s b ∷ [] ≡ promise_records stored promise
  promised_here b s is none here = sym (ap (promise_records stored) is ∙ ap (promise_record (promised_sequence stored) b) none ∙ ap (λ (t : ℕ). Promised t b ∷ []) (sym here))

  -- A vote is at its ballot.
  pub implied_here : (b : Ballot) → promise ≡ Some b → is_voted stored.votes b last_sequence ≡ true → promise_records stored promise ≡ []
  implied_here b is some = ap (promise_records stored) is ∙ ap (promise_record (promised_sequence stored) b) some

  pub none_promised : promise ≡ None → promise_records stored promise ≡ []
  none_promised none = ap (promise_records stored) none

-- the sequence of its record
pub promised_next : (stored : DurableState Definition) (s : ℕ) → length stored.history < last_sequence → s ≡ length stored.history + 1 → s ≡ promised_sequence stored
unfolding promised_sequence next_sequence published
promised_next stored s more is = is ∙ sym (min-eq_left (omega (arith, more)))

pub promised_last : (stored : DurableState Definition) → (length stored.history < last_sequence → ⊥) → last_sequence ≡ promised_sequence stored
unfolding promised_sequence next_sequence published
promised_last stored full = sym (min-eq_right (omega (arith, full)))

-- ---- sequence by sequence: the records so far, and those still to come

pub none_yet : (stored : DurableState Definition) (records : List (Record Definition)) (number left last : ℕ) → number ≡ 1 → number + left ≡ 1 + last →
    records ++ records_from stored number left ≡ records ++ records_from stored 1 last
none_yet stored records number left last first sum =
    let all_left : left ≡ last = omega arith in ap (λ (k : ℕ). records ++ records_from stored k left) first ∙ ap (λ (k : ℕ). records ++ records_from stored 1 k) all_left

pub next_one : (stored : DurableState Definition) (before after : List (Record Definition)) (s slot left : ℕ) (whole : List (Record Definition)) → after ≡ before ++ records_at stored slot → slot ≡ s →
    before ++ records_from stored s (suc left) ≡ whole → after ++ records_from stored (s + 1) left ≡ whole
unfolding records_from
next_one stored before after s slot left whole more same so_far =
    rw (more, same, add-one) (append_assoc before (records_at stored s) (records_from stored (suc s) left) ∙ so_far)

pub all_there : (stored : DurableState Definition) (records : List (Record Definition)) (s : ℕ) (whole : List (Record Definition)) → records ++ records_from stored s 0 ≡ whole → records ≡ whole
unfolding records_from
all_there stored records s whole so_far = sym (append-nil records) ∙ so_far
