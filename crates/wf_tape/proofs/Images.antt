-- The images of a tape in memory.
use Rattle.std.proofs.Common.{◌≡◌, ℕ, ◌≤◌, List, [], ◌++◌, length, take, drop, refl, sym, ap, subst, ◌∙◌, length-append, inr, arith}
use Rattle.std.proofs.lemmas.List.{append-nil, take-append-drop, take-append-le, take_all, nil_from_length}
use Rattle.wf_tape.specs.Tape.{IsPrefixOf, IsOnlyImage, IsUnchanged, LeavesNoOther, IsExtended, LeavesOldOrCut}
use Rattle.wf_tape.specs.MemoryTape.{TapeValue, IsImageNow}

begins_itself : (bytes : List ℕ) → IsPrefixOf bytes bytes
begins_itself bytes = ([], sym (append-nil bytes))

begins_taken : (n : ℕ) (bytes : List ℕ) → IsPrefixOf (take n bytes) bytes
begins_taken n bytes = (drop n bytes, sym (take-append-drop n bytes))

-- all the bytes are an image
pub content_is_image : (kept : TapeValue) → IsImageNow kept kept.bytes
content_is_image kept = (begins_itself kept.bytes, begins_taken kept.synced kept.bytes)

-- the synced bytes are an image
pub synced_are_image : (kept : TapeValue) → IsImageNow kept (take kept.synced kept.bytes)
synced_are_image kept = (begins_taken kept.synced kept.bytes, begins_itself (take kept.synced kept.bytes))

-- two byte strings that are prefixes of each other are equal
same_both : (a b : List ℕ) → IsPrefixOf a b → IsPrefixOf b a → a ≡ b
same_both a b a_begins b_begins =
    let none : a_begins.0 ≡ [] = nil_from_length a_begins.0 (omega (arith, ap length a_begins.1, ap length b_begins.1, length-append a a_begins.0, length-append b b_begins.0)) in
    sym (a_begins.1 ∙ ap (λ (t : List ℕ). a ++ t) none ∙ append-nil a)

-- if all bytes are synced they are the only image
pub only_synced : (kept : TapeValue) → kept.synced ≡ length kept.bytes → IsOnlyImage kept.bytes (IsImageNow kept)
only_synced kept all =
    let whole : take kept.synced kept.bytes ≡ kept.bytes = take_all kept.synced kept.bytes (omega (arith, all)) in
    record {
      is_image = content_is_image kept;
      no_other = λ image is. same_both image kept.bytes is.0 (subst (λ (t : List ℕ). IsPrefixOf t image) whole is.1);
    }

-- a sync adds no image
pub sync_leaves : (old new : TapeValue) → new.bytes ≡ old.bytes → new.synced ≡ length new.bytes → LeavesNoOther (IsImageNow old) (IsImageNow new)
sync_leaves old new same all image is =
    let is_content : image ≡ old.bytes = (only_synced new all).no_other image is ∙ same in
    subst (λ (t : List ℕ). IsImageNow old t) (sym is_content) (content_is_image old)

-- after an append each image is a prefix of the content and begins with one from before
pub append_leaves : (old new : TapeValue) (more : List ℕ) → old.synced ≤ length old.bytes → new.bytes ≡ old.bytes ++ more → new.synced ≡ old.synced → LeavesOldOrCut new.bytes (IsImageNow old) (IsImageNow new)
append_leaves old new more within longer same image is =
    let front : take new.synced new.bytes ≡ take old.synced old.bytes =
    ap (λ (n : ℕ). take n new.bytes) same ∙ ap (λ (t : List ℕ). take old.synced t) longer ∙ take-append-le old.synced old.bytes more within in
    inr (is.0, (take old.synced old.bytes, synced_are_image old, subst (λ (t : List ℕ). IsPrefixOf t image) front is.1))

-- nothing appended is a case of an append
pub not_extended : (old new more : List ℕ) → new ≡ old → IsExtended old more new
not_extended old new more same = ([], (more, refl), same ∙ sym (append-nil old))

pub unchanged : (old new : TapeValue) → new.bytes ≡ old.bytes → new.synced ≡ old.synced → IsUnchanged old.bytes new.bytes (IsImageNow old) (IsImageNow new)
unchanged old new same_bytes same_synced =
    let front : take new.synced new.bytes ≡ take old.synced old.bytes = ap (λ (n : ℕ). take n new.bytes) same_synced ∙ ap (λ (t : List ℕ). take old.synced t) same_bytes in
    record {
      content = same_bytes;
      kept = λ image is. (subst (λ (t : List ℕ). IsPrefixOf image t) (sym same_bytes) is.0, subst (λ (t : List ℕ). IsPrefixOf t image) (sym front) is.1);
      no_other = λ image is. (subst (λ (t : List ℕ). IsPrefixOf image t) same_bytes is.0, subst (λ (t : List ℕ). IsPrefixOf t image) front is.1);
    }
