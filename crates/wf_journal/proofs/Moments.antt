-- The moments inside two calls of a tape in turn.
use Rattle.std.proofs.Common.{◌≡◌, ◌⊎◌, ℕ, List, ◌++◌, Result, Err, IsErrOf, subst, inl, inr}
use Rattle.wf_def.specs.Definition.{Definition}
use Rattle.wf_model.specs.DurableState.{Record}
use Rattle.wf_canon.specs.TextMeaning.{OneTextOneMap}
use Rattle.wf_tape.specs.declared.fault.TapeFault.{TapeFault}
use Rattle.wf_tape.specs.declared.fault.TapeFault.TheVariants.{Device, Memory}
use Rattle.wf_tape.specs.Tape.{IsPrefixOf, IsUnchanged, IsExtended, IsNotMemory, LeavesNoOther, LeavesOldOrCut, LeavesOldOrNew, Elapses, LeavesNow}
use Rattle.wf_journal.specs.MomentTheorems.{inside_two}
use Rattle.wf_journal.specs.Encoding.{Encodes}
use Rattle.wf_journal.specs.Journal.{IsSettled, Follows, ReadsSameOrOneMore}
use Rattle.wf_journal.proofs.CrashImages.{cut_shorter, same_or_more}

-- ---- appending

-- Inside an append and the sync after it a crash leaves what it could before, or a prefix of what
-- is there at the end.
pub inside_written : (a b c : ℕ) (content bytes new : List ℕ) (old mid : List ℕ → Type 0) (first second third : ℕ → List ℕ → Type 0) → new ≡ content ++ bytes → LeavesOldOrCut new old mid →
    Elapses a b first second → Elapses b c second third → LeavesOldOrNew old mid (second a) → LeavesNoOther mid (third b) → LeavesOldOrCut (content ++ bytes) old (third a)
inside_written a b c content bytes new old mid first second third is cut one two in_first in_second =
    let short : LeavesOldOrCut (content ++ bytes) old mid = subst (λ (t : List ℕ). LeavesOldOrCut t old mid) is cut in
    inside_two a b c second third (λ image. old image ⊎ (IsPrefixOf image (content ++ bytes) × ((earlier : List ℕ) × old earlier × IsPrefixOf earlier image))) one.later two
    (λ image left. elim (in_first image left) [ inl was ↦ inl was | inr is_new ↦ short image is_new ])
    (λ image left. short image (in_second image left))

-- So does an append that failed.
pub inside_failed : {A : Type 0} (content bytes new : List ℕ) (old mid inside : List ℕ → Type 0) (result : Result A TapeFault) (fault : TapeFault) → result ≡ Err fault → IsExtended content bytes new →
    (IsNotMemory result → LeavesOldOrCut new old mid) → (IsErrOf result Memory → IsUnchanged content new old mid) → LeavesOldOrNew old mid inside → LeavesOldOrCut (content ++ bytes) old inside
inside_failed content bytes new old mid inside result Device is extended cut same leaves image left = elim (leaves image left) [
  | inl was ↦ inl was
  | inr is_new ↦ cut_shorter content bytes new old mid extended (cut (λ e. absurd (cc (is, e)))) image is_new
]
inside_failed content bytes new old mid inside result Memory is extended cut same leaves image left = elim (leaves image left) [
  | inl was ↦ inl was
  | inr is_new ↦ inl ((same is).no_other image is_new)
]

-- ---- the journal

-- no call was made: each image is one from before
pub inside_none : (r : Record Definition) (images since : List ℕ → Type 0) → LeavesNow images since → Follows (ReadsSameOrOneMore r) images since
inside_none r images since now image left = (image, now.nothing_else image left, λ records reads. inl reads)

-- Inside an addition each image reads as the records before, or with the new one.
pub inside_added : OneTextOneMap → (content spelled : List ℕ) (r : Record Definition) (old inside : List ℕ → Type 0) → IsSettled content old → Encodes r spelled → LeavesOldOrCut (content ++ spelled) old inside →
    Follows (ReadsSameOrOneMore r) old inside
inside_added one_map content spelled r old inside settled spells leaves image left = elim (leaves image left) [
  | inl was ↦ (image, was, λ records reads. inl reads)
  | inr cut ↦ same_or_more one_map content spelled r old (λ other. IsPrefixOf other (content ++ spelled) × ((earlier : List ℕ) × old earlier × IsPrefixOf earlier other)) settled spells (λ other is. is) image cut
]
