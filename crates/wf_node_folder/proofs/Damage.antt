-- Whole records are bad nowhere: where a tape is damaged, it was so when it was read.
use Rattle.std.proofs.Common.{◌≡◌, ◌≢◌, ◌∙◌, ◌≤◌, ◌<◌, ℕ, true, false, List, [], ◌∷◌, length, drop, sym, subst, refl, arith, length-drop, inl, inr}
use Rattle.std.proofs.lemmas.Bool.{cases_lt}
use Rattle.std.specs.List.{list_all}
use Rattle.std.specs.Prelude.{Bool, Result, Ok, Err, IfErr}
use Rattle.wf_canon.specs.TextMeaning.{OneTextOneMap}
use Rattle.wf_def.specs.Definition.{Definition}
use Rattle.wf_journal.proofs.Lists.{first_are_records, none_begins_nothing}
use Rattle.wf_journal.proofs.Validated.{none_begins_another}
use Rattle.wf_journal.specs.Journal.{IsBadAt, IsNotBad, IsWhereBad}
use Rattle.wf_journal.specs.Records.{BeginsWithNone, Splits}
use Rattle.wf_journal.specs.declared.open_error.OpenFault.{OpenFault}
use Rattle.wf_journal.specs.declared.open_error.OpenFault.TheVariants.{TapeFailed, BadRecord, Memory}
use Rattle.wf_model.specs.DurableState.{Record}
use Rattle.wf_node.specs.OpenedNode.{IsWhyBad}
use Rattle.wf_node_folder.specs.Damage.{AreBadNowhere, AreWhole, IsDamagedAt, IsWhyDamaged}
use Rattle.wf_node_folder.specs.Held.{ReadAlike}
use Rattle.wf_recovery.specs.Unsynced.{HoldsFront, IsUnsynced, is_zero, longest_record}

-- ---- whole records

-- nothing follows them
nothing_behind : OneTextOneMap → (bytes : List ℕ) (xs ys : List (Record Definition)) (rest : List ℕ) → Splits bytes xs [] → Splits bytes ys rest → BeginsWithNone rest → rest ≡ []
nothing_behind one_map bytes [] [] rest x y none = sym y ∙ x
nothing_behind one_map bytes [] (r ∷ ys) rest x y none = absurd (none_begins_nothing r y.0 y.1 y.2 (sym x ∙ y.3))
nothing_behind one_map bytes (q ∷ xs) [] rest x y none = absurd (none q x.0 x.1 x.2 (sym y ∙ x.3))
nothing_behind one_map bytes (q ∷ xs) (r ∷ ys) rest x y none =
    let same = none_begins_another one_map q r x.0 y.0 x.1 y.1 x.2 y.2 (sym x.3 ∙ y.3) in
    nothing_behind one_map x.1 xs ys rest x.4 (subst (λ (t : List ℕ). Splits t ys rest) (sym same.2) y.4) none

pub bad_nowhere : OneTextOneMap → AreBadNowhere
bad_nowhere one_map content offset whole bad = bad.2.not_clean (nothing_behind one_map content whole.0 bad.0 (drop offset content) whole.1 bad.1 bad.2.longest)

-- a journal that doesn't open on them found no bad record
pub never_bad : AreBadNowhere → (fault : OpenFault) (front back content : List ℕ) → AreWhole front → (fault ≢ TapeFailed → back ≡ front) → IsWhereBad fault back → IsWhyDamaged fault content
never_bad nowhere TapeFailed front back content whole same bad = tt
never_bad nowhere (BadRecord offset) front back content whole same bad =
    absurd (nowhere front offset whole (subst (λ (t : List ℕ). IsBadAt t offset) (same (λ clash. absurd cc)) bad))
never_bad nowhere Memory front back content whole same bad = tt

-- a node that doesn't open on them: the tape that is read alike has no fold
pub damaged_back : AreBadNowhere → (fault : OpenFault) (found settled : List ℕ) → ReadAlike found settled → AreWhole settled → IsWhyBad fault settled → IsWhyDamaged fault found
damaged_back nowhere TapeFailed found settled alike whole why = tt
damaged_back nowhere (BadRecord offset) found settled alike whole why = elim why [
  | inl bad ↦ absurd (nowhere settled offset whole bad)
  | inr none ↦ inr (record { records = none.records; reads = alike.back none.records none.reads; none = none.none; unfit = none.unfit })
]
damaged_back nowhere Memory found settled alike whole why = tt

-- ---- what was never synced

-- what can't be anything else is that
is_unsynced : (rest : List ℕ) → ¬ ¬ IsUnsynced rest → IsUnsynced rest
is_unsynced rest is = elim (cases_lt 0 (length rest)) [
  | inl some ↦ elim (cases_lt longest_record (length rest)) [
    | inl long ↦ absurd (is (λ u. absurd (omega (arith, long, u.short))))
    | inr short ↦ by_zeros (list_all is_zero rest) refl some short
  ]
  | inr none ↦ absurd (is (λ u. absurd (omega (arith, none, u.some))))
]
  where
    by_zeros : (all : Bool) → list_all is_zero rest ≡ all → 0 < length rest → length rest ≤ longest_record → IsUnsynced rest
    by_zeros true zeros some short = record { some = omega (arith, some); short = short; zeros = zeros }
    by_zeros false zeros some short = absurd (is (λ u. absurd (let clash : true ≡ false = sym u.zeros ∙ zeros in cc)))

module _ (content : List ℕ) (offset : ℕ) (bad : IsBadAt content offset) where
  -- nothing of it was dropped
  pub none_dropped : (IsUnsynced (drop offset content) → 0 ≡ length (drop offset content)) → IsDamagedAt content offset
  none_dropped counts = inl (record { bad = bad; synced = λ is. absurd (omega (arith, counts is, is.some)) })

  -- something was: the records before it are left
  pub front_whole : (front : List ℕ) (images : List ℕ → Type 0) (dropped : ℕ) → ¬ (dropped ≡ 0) → (¬ IsUnsynced (drop offset content) → dropped ≡ 0)
      → (IsUnsynced (drop offset content) → HoldsFront offset content front images) → AreWhole front
  front_whole front images dropped some kept holds =
      let unsynced = is_unsynced (drop offset content) (λ no. some (kept no)) in
      let within : offset ≤ length content = omega (arith, unsynced.some, length-drop offset content) in
      subst AreWhole (sym (holds unsynced).content) (bad.0, first_are_records content bad.0 offset within bad.1)

-- ---- from one tape to the other

-- what came back is what was found, unless the tape failed
pub damaged_there : {A : Type 0} (found back : List ℕ) (fault : OpenFault) (result : Result A OpenFault) → (fault ≢ TapeFailed → back ≡ found)
    → IfErr result (λ why. fault ≡ TapeFailed → IsNotBad why) → IfErr result (λ why. IsWhyDamaged why back) → IfErr result (λ why. IsWhyDamaged why found)
damaged_there found back fault (Ok settled) kept failed why = tt
damaged_there found back fault (Err TapeFailed) kept failed why = tt
damaged_there found back TapeFailed (Err (BadRecord offset)) kept failed why = absurd (failed refl)
damaged_there found back (BadRecord other) (Err (BadRecord offset)) kept failed why = subst (λ (t : List ℕ). IsDamagedAt t offset) (kept (λ clash. absurd cc)) why
damaged_there found back Memory (Err (BadRecord offset)) kept failed why = subst (λ (t : List ℕ). IsDamagedAt t offset) (kept (λ clash. absurd cc)) why
damaged_there found back fault (Err Memory) kept failed why = tt
