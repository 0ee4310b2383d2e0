-- The whole records at the front of bytes read as all of the bytes do.
use Rattle.std.proofs.Common.{◌≡◌, ◌∙◌, ◌≤◌, ℕ, true, false, List, ◌++◌, length, take, drop, ap, sym, subst, arith, length-drop, inl, inr}
use Rattle.std.specs.List.{list_all}
use Rattle.std.specs.Prelude.{◌↔◌, IsTrue}
use Rattle.wf_ballot.specs.Field.{frame}
use Rattle.wf_def.specs.Definition.{Definition}
use Rattle.wf_model.specs.DurableState.{Record}
use Rattle.wf_frame.specs.Row.{Row}
use Rattle.wf_journal.specs.Encoding.{text_spelling}
use Rattle.wf_journal.specs.Journal.{Follows, IsBadAt, ReadsSame}
use Rattle.wf_journal.specs.Record.{texts}
use Rattle.wf_journal.specs.Records.{AreReadOneWay, BeginsWithNone, ReadsAs}
use Rattle.wf_journal.specs.declared.version.Version.{Version}
use Rattle.wf_journal.specs.declared.version.Version.TheVariants.{One, Two}
use Rattle.wf_journal.proofs.Lists.{first_are_records, whole_reads}
use Rattle.wf_tape.specs.Tape.{IsOnlyImage, LeavesOldOr}
use Rattle.wf_recovery.specs.Unsynced.{HoldsFront, IsUnsynced, is_zero}

-- nothing follows the end of bytes
pub none_behind : (bytes : List ℕ) (offset : ℕ) → length bytes ≤ offset → (IsTrue false ↔ IsUnsynced (drop offset bytes))
none_behind bytes offset beyond = (λ clash. absurd cc, λ is. absurd (omega (arith, is.some, length-drop offset bytes, beyond)))

-- a version isn't 0
not_zero : (version : Version) (row : Row (List ℕ)) (after : List ℕ) → list_all is_zero (text_spelling version row ++ after) ≡ true → ⊥
unfolding text_spelling frame
not_zero One row after zeros = let clash : false ≡ true = zeros in cc
not_zero Two row after zeros = let clash : false ≡ true = zeros in cc

-- so no record begins with one
pub no_record : (rest : List ℕ) → IsUnsynced rest → BeginsWithNone rest
no_record rest is r spelled after encodes parts =
    not_zero encodes.version (texts r) after (subst (λ (t : List ℕ). list_all is_zero t ≡ true) (parts ∙ ap (λ (t : List ℕ). t ++ after) encodes.spelled) is.zeros)

-- what stands before bad bytes reads as all of them
reads_before : AreReadOneWay → (bytes : List ℕ) (offset : ℕ) → offset ≤ length bytes → IsBadAt bytes offset → ReadsSame bytes (take offset bytes)
reads_before one_way bytes offset within bad others reads =
    let same : bad.0 ≡ others = one_way bytes bad.0 others (drop offset bytes, record { splits = bad.1; longest = bad.2.longest }) reads in
    subst (λ (rs : List (Record Definition)). ReadsAs (take offset bytes) rs) same
    (whole_reads (take offset bytes) bad.0 (first_are_records bytes bad.0 offset within bad.1))

pub holds_front : (bytes front new : List ℕ) (offset : ℕ) (images : List ℕ → Type 0) → front ≡ take offset bytes → new ≡ front → IsOnlyImage front images → HoldsFront offset bytes new images
holds_front bytes front new offset images is same only =
    record { content = same ∙ is; only = subst (λ (t : List ℕ). IsOnlyImage t images) (sym same) only }

module _ (one_way : AreReadOneWay) (bytes front : List ℕ) (offset : ℕ) (within : offset ≤ length bytes) (bad : IsBadAt bytes offset) (is : front ≡ take offset bytes) where
  pub reads_front : (image : List ℕ) → image ≡ front → ReadsSame bytes image
  reads_front image same = subst (λ (t : List ℕ). ReadsSame bytes t) (sym (same ∙ is)) (reads_before one_way bytes offset within bad)

  -- the tape was replaced
  pub same_after : (old new : List ℕ → Type 0) → old bytes → IsOnlyImage front new → Follows ReadsSame old new
  same_after old new is_image only image left = (bytes, is_image, reads_front image (only.no_other image left))

  -- or it was, or not
  pub same_or_front : (old new : List ℕ → Type 0) → old bytes → LeavesOldOr front old new → Follows ReadsSame old new
  same_or_front old new is_image leaves image left = elim (leaves image left) [
    | inl was ↦ (image, was, λ records reads. reads)
    | inr same ↦ (bytes, is_image, reads_front image same)
  ]
