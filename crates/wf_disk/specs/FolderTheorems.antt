-- Theorems about what the end of a process leaves.
use Rattle.std.specs.Prelude.{◌≡◌, ◌⊎◌, ℕ, zero, suc, List, [], ◌∷◌, ◌++◌, length, take, drop, slice_index_or, Option, Some, None, option_map}
use Rattle.std.proofs.Common.{refl, sym, ap, subst, ◌∙◌, inl, inr}
use Rattle.std.proofs.lemmas.List.{append-nil, take-append-drop, take_at}
use Rattle.wf_disk.specs.Moments.{IsPrefixOf}
use Rattle.wf_disk.specs.Folder.{File, Folder, bytes_in, whole, IsLeftOf, IsLeftOfOne, MayLeave, IsCrashed, IsProcessEnded, IsSynced}
use Rattle.wf_disk.specs.MemoryDisk.{left_by, cut_to}

-- However a process ends, under the own name is then what a power cut may leave.
abbrev pub EndsInAnImage : Type 0
EndsInAnImage = (old new : Folder) → IsProcessEnded old new → MayLeave old (bytes_in new.own)

-- What is synced is there however the process ends, and nothing else is.
abbrev pub SyncedBytesStay : Type 0
SyncedBytesStay = (old new : Folder) (bytes : List ℕ) → IsSynced old bytes → IsProcessEnded old new → bytes_in new.own ≡ bytes

-- A second power cut changes nothing of the bytes.
abbrev pub CutsOnce : Type 0
CutsOnce = (old mid new : Folder) → IsCrashed old mid → IsCrashed mid new → bytes_in new.own ≡ bytes_in mid.own

-- the content is an image
pub content_is_left : (file : Option File) → IsLeftOf file (bytes_in file)
unfolding IsLeftOf
content_is_left None = refl
content_is_left (Some file) = (file.rest, ([], sym (append-nil file.rest)), refl)

pub ends_in_an_image : EndsInAnImage
ends_in_an_image old new ended = elim ended [
  | inl same ↦ subst (λ (folder : Folder). MayLeave old (bytes_in folder.own)) (sym same) (inl (content_is_left old.own))
  | inr crashed ↦ crashed.left
]

nil_begins : (kept : List ℕ) → IsPrefixOf kept [] → kept ≡ []
nil_begins [] begins = refl
nil_begins (byte ∷ kept) begins = absurd (cc begins.1)

-- of a file whose bytes are synced a power cut leaves exactly them
pub whole_is_left : (bytes image : List ℕ) → IsLeftOf (Some (whole bytes)) image → image ≡ bytes
unfolding IsLeftOf
whole_is_left bytes image left = left.2 ∙ ap (λ (t : List ℕ). bytes ++ t) (nil_begins left.0 left.1) ∙ append-nil bytes

pub none_is_left : (image : List ℕ) → IsLeftOf None image → image ≡ []
unfolding IsLeftOf
none_is_left image left = left

pub no_file_is_left : (image : List ℕ) → IsLeftOfOne [] image → ⊥
unfolding IsLeftOfOne
no_file_is_left image left = left

-- only one file can be under the own name
only_own : (folder : Folder) (image : List ℕ) → folder.earlier ≡ [] → MayLeave folder image → IsLeftOf folder.own image
only_own folder image names left = elim left [
  | inl own ↦ own
  | inr back ↦ absurd (no_file_is_left image (subst (λ (files : List (Option File)). IsLeftOfOne files image) names back))
]

pub synced_bytes_stay : SyncedBytesStay
synced_bytes_stay old new bytes synced ended =
    let left : MayLeave old (bytes_in new.own) = ends_in_an_image old new ended in
    whole_is_left bytes (bytes_in new.own) (subst (λ (file : Option File). IsLeftOf file (bytes_in new.own)) synced.own (only_own old (bytes_in new.own) synced.names left))

pub cuts_once : CutsOnce
cuts_once old mid new first second =
    let left : IsLeftOf mid.own (bytes_in new.own) = only_own mid (bytes_in new.own) first.names second.left in
    elim first.synced [
      | inl none ↦ none_is_left (bytes_in new.own) (subst (λ (file : Option File). IsLeftOf file (bytes_in new.own)) none left) ∙ sym (ap bytes_in none)
      | inr all ↦ whole_is_left (bytes_in mid.own) (bytes_in new.own) (subst (λ (file : Option File). IsLeftOf file (bytes_in new.own)) all left)
    ]

-- ---- a disk in memory

-- A disk in memory is cut to whatever a power cut may leave.
abbrev pub IsCutToAny : Type 0
IsCutToAny = (folder : Folder) (image : List ℕ) → MayLeave folder image → (back : ℕ) × (keep : ℕ) × (bytes_in (cut_to back keep folder).own ≡ image)

-- what is left of a file when it is cut
left_of_cut : (keep : ℕ) (file : Option File) → IsLeftOf file (bytes_in (option_map (left_by keep) file))
unfolding IsLeftOf
left_of_cut keep None = refl
left_of_cut keep (Some file) = (take keep file.rest, (drop keep file.rest, sym (take-append-drop keep file.rest)), append-nil (file.synced ++ take keep file.rest))

left_of_one : (files : List (Option File)) (own : Option File) (n : ℕ) (image : List ℕ) → IsLeftOf (slice_index_or files n own) image → IsLeftOf own image ⊎ IsLeftOfOne files image
unfolding IsLeftOfOne
left_of_one [] own n image left = inl left
left_of_one (file ∷ files) own zero image left = inr (inl left)
left_of_one (file ∷ files) own (suc n) image left = elim (left_of_one files own n image left) [
  | inl here ↦ inl here
  | inr back ↦ inr (inr back)
]

cut_is_left : (back keep : ℕ) (folder : Folder) → MayLeave folder (bytes_in (cut_to back keep folder).own)
cut_is_left zero keep folder = inl (left_of_cut keep folder.own)
cut_is_left (suc n) keep folder = left_of_one folder.earlier folder.own n (bytes_in (cut_to (suc n) keep folder).own) (left_of_cut keep (slice_index_or folder.earlier n folder.own))

cut_is_whole : (keep : ℕ) (file : Option File) → (option_map (left_by keep) file ≡ None) ⊎ (option_map (left_by keep) file ≡ Some (whole (bytes_in (option_map (left_by keep) file))))
cut_is_whole keep None = inl refl
cut_is_whole keep (Some file) = inr (ap (λ (bytes : List ℕ). Some (whole bytes)) (sym (append-nil (file.synced ++ take keep file.rest))))

-- To cut a disk in memory is a power cut.
pub cut_crashes : (back keep : ℕ) (folder : Folder) → IsCrashed folder (cut_to back keep folder)
cut_crashes back keep folder = record {
  left = cut_is_left back keep folder;
  synced = cut_is_whole keep (slice_index_or (folder.own ∷ folder.earlier) back folder.own);
  names = refl;
}

-- so much is kept of a file that it leaves the image
kept_of : (file : Option File) (image : List ℕ) → IsLeftOf file image → (keep : ℕ) × (bytes_in (option_map (left_by keep) file) ≡ image)
unfolding IsLeftOf
kept_of None image left = (0, sym left)
kept_of (Some file) image left = (
  length left.0,
  append-nil (file.synced ++ take (length left.0) file.rest) ∙ ap (λ (t : List ℕ). file.synced ++ t) (ap (take (length left.0)) left.1.1 ∙ take_at left.0 left.1.0 (length left.0) refl) ∙ sym left.2,
)

back_of : (files : List (Option File)) (own : Option File) (image : List ℕ) → IsLeftOfOne files image → (n : ℕ) × IsLeftOf (slice_index_or files n own) image
unfolding IsLeftOfOne
back_of [] own image left = absurd left
back_of (file ∷ files) own image left = elim left [
  | inl here ↦ (0, here)
  | inr back ↦ let found = back_of files own image back in (suc found.0, found.1)
]

pub is_cut_to_any : IsCutToAny
is_cut_to_any folder image left = elim left [
  | inl own ↦ let kept = kept_of folder.own image own in (0, kept.0, kept.1)
  | inr back ↦
      let found = back_of folder.earlier folder.own image back in
      let kept = kept_of (slice_index_or folder.earlier found.0 folder.own) image found.1 in
      (suc found.0, kept.0, kept.1)
]
