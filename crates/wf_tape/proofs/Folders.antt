-- What calls of a disk leave in its folder, for a tape.
use Rattle.std.proofs.Common.{◌≡◌, ◌⊎◌, ℕ, Bool, true, false, List, [], ◌∷◌, ◌++◌, Option, Some, None, option_map, Result, Ok, Err, OnOk, OnErr, if◌then◌else◌, refl, sym, ap, subst, ◌∙◌, append_assoc, inl, inr}
use Rattle.std.proofs.lemmas.List.{append-nil}
use Rattle.wf_disk.specs.declared.fault.DiskFault.{DiskFault}
use Rattle.wf_disk.specs.declared.fault.DiskFault.TheVariants.{Device, Memory}
use Rattle.wf_disk.specs.declared.folder.Name.TheVariants.{Own, Second}
use Rattle.wf_disk.specs.Folder.{File, Folder, bytes_of, bytes_in, empty_file, whole, IsLeftOf, IsLeftOfOne, MayLeave, IsSynced}
use Rattle.wf_disk.specs.FolderTheorems.{content_is_left, whole_is_left, no_file_is_left}
use Rattle.wf_disk.specs.Call.{Open, Make, Append, Sync, Rename, SyncNames, done, extended, synced, doubted, opened_over, IsThere, IsLeft, error_of}
use Rattle.wf_tape.specs.Tape.{IsPrefixOf, IsOnlyImage, IsUnchanged, IsExtended, LeavesNoOther, LeavesOldOr, LeavesOldOrCut}
use Rattle.wf_tape.specs.DiskTape.{IsSure, IsButSecond, unsynced, placed}

-- ---- folders

-- the same own file, and the same to put back: the same images
pub same_images : (old new : Folder) → new.own ≡ old.own → new.earlier ≡ old.earlier → LeavesNoOther (MayLeave old) (MayLeave new)
same_images old new own earlier image left = elim left [
  | inl here ↦ inl (subst (λ (file : Option File). IsLeftOf file image) own here)
  | inr back ↦ inr (subst (λ (files : List (Option File)). IsLeftOfOne files image) earlier back)
]

pub unchanged_folder : (old new : Folder) → new.own ≡ old.own → new.earlier ≡ old.earlier → IsUnchanged (bytes_in old.own) (bytes_in new.own) (MayLeave old) (MayLeave new)
unchanged_folder old new own earlier = record {
  content = ap bytes_in own;
  kept = same_images new old (sym own) (sym earlier);
  no_other = same_images old new own earlier;
}

pub same_folder : (old new : Folder) → new ≡ old → IsUnchanged (bytes_in old.own) (bytes_in new.own) (MayLeave old) (MayLeave new)
same_folder old new same = unchanged_folder old new (ap (λ (folder : Folder). folder.own) same) (ap (λ (folder : Folder). folder.earlier) same)

-- what is synced is the only image
pub only_synced : (folder : Folder) (bytes : List ℕ) → IsSynced folder bytes → IsOnlyImage bytes (MayLeave folder)
only_synced folder bytes is = record {
  is_image = inl (subst (λ (file : Option File). IsLeftOf file bytes) (sym is.own) (subst (λ (t : List ℕ). IsLeftOf (Some (whole bytes)) t) (append-nil bytes) (content_is_left (Some (whole bytes)))));
  no_other = λ image left. elim left [
    | inl here ↦ whole_is_left bytes image (subst (λ (file : Option File). IsLeftOf file image) is.own here)
    | inr back ↦ absurd (no_file_is_left image (subst (λ (files : List (Option File)). IsLeftOfOne files image) is.names back))
  ];
}

pub synced_content : (folder : Folder) (bytes : List ℕ) → IsSynced folder bytes → bytes_in folder.own ≡ bytes
synced_content folder bytes is = ap bytes_in is.own ∙ append-nil bytes

-- ---- opening

nil_begins : (kept : List ℕ) → IsPrefixOf kept [] → kept ≡ []
nil_begins [] begins = refl
nil_begins (byte ∷ kept) begins = absurd (cc begins.1)

empty_is_left : (image : List ℕ) → IsLeftOf (Some empty_file) image → IsLeftOf None image
unfolding IsLeftOf
empty_is_left image left = left.2 ∙ nil_begins left.0 left.1

opened_images : (own second : Option File) (earlier : List (Option File)) → LeavesNoOther (MayLeave (record { own = own; second = second; earlier = earlier })) (MayLeave (opened_over own (record { own = own; second = second; earlier = earlier })))
unfolding opened_over IsLeftOfOne
opened_images None second earlier image left = elim left [
  | inl here ↦ inl (empty_is_left image here)
  | inr back ↦ elim back [ inl absent ↦ inl absent | inr others ↦ inr others ]
]
opened_images (Some file) second earlier image left = left

opened_content : (own second : Option File) (earlier : List (Option File)) → bytes_in (opened_over own (record { own = own; second = second; earlier = earlier })).own ≡ bytes_in own
unfolding opened_over
opened_content None second earlier = refl
opened_content (Some file) second earlier = refl

pub open_images : (old new : Folder) (fault : Option DiskFault) → IsLeft Open old fault new → LeavesNoOther (MayLeave old) (MayLeave new)
open_images old new None left image is = opened_images old.own old.second old.earlier image (subst (λ (folder : Folder). MayLeave folder image) left.1 is)
open_images old new (Some Device) left image is = elim left [
  | inl same ↦ subst (λ (folder : Folder). MayLeave folder image) same is
  | inr made ↦ opened_images old.own old.second old.earlier image (subst (λ (folder : Folder). MayLeave folder image) made is)
]
open_images old new (Some Memory) left image is = subst (λ (folder : Folder). MayLeave folder image) left is

pub open_content : (old new : Folder) (fault : Option DiskFault) → IsLeft Open old fault new → bytes_in new.own ≡ bytes_in old.own
open_content old new None left = ap (λ (folder : Folder). bytes_in folder.own) left.1 ∙ opened_content old.own old.second old.earlier
open_content old new (Some Device) left = elim left [
  | inl same ↦ ap (λ (folder : Folder). bytes_in folder.own) same
  | inr made ↦ ap (λ (folder : Folder). bytes_in folder.own) made ∙ opened_content old.own old.second old.earlier
]
open_content old new (Some Memory) left = ap (λ (folder : Folder). bytes_in folder.own) left

-- ---- syncing the names

pub names_own : (old new : Folder) (fault : Option DiskFault) → IsLeft SyncNames old fault new → new.own ≡ old.own
names_own old new None left = ap (λ (folder : Folder). folder.own) left.1
names_own old new (Some Device) left = ap (λ (folder : Folder). folder.own) left
names_own old new (Some Memory) left = ap (λ (folder : Folder). folder.own) left

pub names_stay : (old new : Folder) (fault : Option DiskFault) → IsLeft SyncNames old fault new → old.earlier ≡ [] → new.earlier ≡ []
names_stay old new None left none = ap (λ (folder : Folder). folder.earlier) left.1
names_stay old new (Some Device) left none = ap (λ (folder : Folder). folder.earlier) left ∙ none
names_stay old new (Some Memory) left none = ap (λ (folder : Folder). folder.earlier) left ∙ none

pub names_done : {A : Type 0} (old new : Folder) (result : Result A DiskFault) → IsLeft SyncNames old (error_of result) new → OnOk result (new.earlier ≡ [])
names_done old new (Ok x) left = ap (λ (folder : Folder). folder.earlier) left.1
names_done old new (Err fault) left = tt

pub names_images : (old new : Folder) (fault : Option DiskFault) → IsLeft SyncNames old fault new → LeavesNoOther (MayLeave old) (MayLeave new)
names_images old new None left image is = elim (subst (λ (folder : Folder). MayLeave folder image) left.1 is) [
  | inl here ↦ inl here
  | inr back ↦ absurd (no_file_is_left image back)
]
names_images old new (Some Device) left image is = subst (λ (folder : Folder). MayLeave folder image) left is
names_images old new (Some Memory) left image is = subst (λ (folder : Folder). MayLeave folder image) left is

-- ---- syncing the own file

-- a sync leaves a file its bytes
synced_bytes : (file : File) (b : Bool) → file.doubtful ≡ b → bytes_of (if b then file else whole (bytes_of file)) ≡ bytes_of file
synced_bytes file true is = refl
synced_bytes file false is = append-nil (bytes_of file)

synced_leaves : (file : File) (b : Bool) (image : List ℕ) → IsLeftOf (Some (if b then file else whole (bytes_of file))) image → IsLeftOf (Some file) image
synced_leaves file true image left = left
synced_leaves file false image left = subst (λ (t : List ℕ). IsLeftOf (Some file) t) (sym (whole_is_left (bytes_of file) image left)) (content_is_left (Some file))

doubted_leaves : (file : File) (image : List ℕ) → IsLeftOf (Some (doubted file)) image → IsLeftOf (Some file) image
unfolding IsLeftOf
doubted_leaves file image left = left

sync_bytes : (file : Option File) → bytes_in (option_map synced file) ≡ bytes_in file
sync_bytes None = refl
sync_bytes (Some file) = synced_bytes file file.doubtful refl

sync_leaves : (file : Option File) (image : List ℕ) → IsLeftOf (option_map synced file) image → IsLeftOf file image
sync_leaves None image left = left
sync_leaves (Some file) image left = synced_leaves file file.doubtful image left

doubt_bytes : (file : Option File) → bytes_in (option_map doubted file) ≡ bytes_in file
doubt_bytes None = refl
doubt_bytes (Some file) = refl

doubt_leaves : (file : Option File) (image : List ℕ) → IsLeftOf (option_map doubted file) image → IsLeftOf file image
doubt_leaves None image left = left
doubt_leaves (Some file) image left = doubted_leaves file image left

pub sync_content : (old new : Folder) (fault : Option DiskFault) → IsLeft (Sync Own) old fault new → bytes_in new.own ≡ bytes_in old.own
sync_content old new None left = ap (λ (folder : Folder). bytes_in folder.own) left.1 ∙ sync_bytes old.own
sync_content old new (Some Device) left = ap (λ (folder : Folder). bytes_in folder.own) left ∙ doubt_bytes old.own
sync_content old new (Some Memory) left = ap (λ (folder : Folder). bytes_in folder.own) left

pub sync_earlier : (old new : Folder) (fault : Option DiskFault) → IsLeft (Sync Own) old fault new → new.earlier ≡ old.earlier
sync_earlier old new None left = ap (λ (folder : Folder). folder.earlier) left.1
sync_earlier old new (Some Device) left = ap (λ (folder : Folder). folder.earlier) left
sync_earlier old new (Some Memory) left = ap (λ (folder : Folder). folder.earlier) left

pub sync_images : (old new : Folder) (fault : Option DiskFault) → IsLeft (Sync Own) old fault new → LeavesNoOther (MayLeave old) (MayLeave new)
sync_images old new None left image is = elim (subst (λ (folder : Folder). MayLeave folder image) left.1 is) [
  | inl here ↦ inl (sync_leaves old.own image here)
  | inr back ↦ inr back
]
sync_images old new (Some Device) left image is = elim (subst (λ (folder : Folder). MayLeave folder image) left is) [
  | inl here ↦ inl (doubt_leaves old.own image here)
  | inr back ↦ inr back
]
sync_images old new (Some Memory) left image is = subst (λ (folder : Folder). MayLeave folder image) left is

pub sync_done : {A : Type 0} (old mid new : Folder) (second : Result A DiskFault) → IsThere Own old → mid ≡ done (Sync Own) old → new.own ≡ mid.own → OnOk second (IsThere Own old × (new.own ≡ (done (Sync Own) old).own))
sync_done old mid new (Ok x) there is own = (there, own ∙ ap (λ (folder : Folder). folder.own) is)
sync_done old mid new (Err fault) there is own = tt

-- a file that isn't doubtful is synced whole
synced_sure : (file : Option File) (there : File) → file ≡ Some there → there.doubtful ≡ false → option_map synced file ≡ Some (whole (bytes_of there))
synced_sure file there is sure = ap (option_map synced) is ∙ ap (λ (b : Bool). Some (if b then there else whole (bytes_of there))) sure

pub sync_only : (old new : Folder) → IsThere Own old → new.own ≡ (done (Sync Own) old).own → IsSure old.own → new.earlier ≡ [] → IsOnlyImage (bytes_in new.own) (MayLeave new)
sync_only old new there own sure names =
    let all : new.own ≡ Some (whole (bytes_of there.0)) = own ∙ synced_sure old.own there.0 there.1 (sure there.0 there.1) in
    let is : IsSynced new (bytes_of there.0) = record { own = all; names = names } in
    subst (λ (t : List ℕ). IsOnlyImage t (MayLeave new)) (sym (synced_content new (bytes_of there.0) is)) (only_synced new (bytes_of there.0) is)

-- a sync that succeeded leaves a sure file sure
pub sync_sure : (old new : Folder) → IsThere Own old → new.own ≡ (done (Sync Own) old).own → IsSure old.own → IsSure new.own
sync_sure old new there own sure file is = cc (own ∙ synced_sure old.own there.0 there.1 (sure there.0 there.1), is)

-- ---- appending to the own file

begins_itself : (bytes : List ℕ) → IsPrefixOf bytes bytes
begins_itself bytes = ([], sym (append-nil bytes))

extended_bytes : (front : List ℕ) (file : File) → bytes_of (extended front file) ≡ bytes_of file ++ front
extended_bytes front file = sym (append_assoc file.synced file.rest front)

-- Of an absent file nothing is extended.
append_part : (front bytes : List ℕ) (file : Option File) → IsPrefixOf front bytes → IsExtended (bytes_in file) bytes (bytes_in (option_map (extended front) file))
append_part front bytes None begins = ([], (bytes, refl), refl)
append_part front bytes (Some file) begins = (front, begins, extended_bytes front file)

pub append_ok : {A : Type 0} (bytes : List ℕ) (old new : Folder) (result : Result A DiskFault) → IsLeft (Append Own bytes) old (error_of result) new → OnOk result (bytes_in new.own ≡ bytes_in old.own ++ bytes)
append_ok bytes old new (Ok x) left =
    ap (λ (folder : Folder). bytes_in folder.own) left.1 ∙ ap (λ (file : Option File). bytes_in (option_map (extended bytes) file)) left.0.1 ∙ extended_bytes bytes left.0.0 ∙ ap (λ (file : Option File). bytes_in file ++ bytes) (sym left.0.1)
append_ok bytes old new (Err fault) left = tt

pub append_extends : (bytes : List ℕ) (old new : Folder) (fault : DiskFault) → IsLeft (Append Own bytes) old (Some fault) new → IsExtended (bytes_in old.own) bytes (bytes_in new.own)
append_extends bytes old new Device left = subst (λ (folder : Folder). IsExtended (bytes_in old.own) bytes (bytes_in folder.own)) (sym left.2) (append_part left.0 bytes old.own left.1)
append_extends bytes old new Memory left = ([], (bytes, refl), ap (λ (folder : Folder). bytes_in folder.own) left ∙ sym (append-nil (bytes_in old.own)))

-- what is left of a file after an append begins with its synced bytes
extended_leaves : (front : List ℕ) (file : Option File) (image : List ℕ) → IsLeftOf (option_map (extended front) file) image → IsPrefixOf image (bytes_in (option_map (extended front) file)) × ((earlier : List ℕ) × IsLeftOf file earlier × IsPrefixOf earlier image)
unfolding IsLeftOf
extended_leaves front None image left = (([], sym (append-nil image ∙ left)), ([], refl, (image, refl)))
extended_leaves front (Some file) image left = (
  (left.1.0, ap (λ (t : List ℕ). file.synced ++ t) left.1.1 ∙ sym (append_assoc file.synced left.0 left.1.0) ∙ ap (λ (t : List ℕ). t ++ left.1.0) (sym left.2)),
  (file.synced, ([], (file.rest, refl), sym (append-nil file.synced)), (left.0, left.2)),
)

extended_cut : (front : List ℕ) (old new : Folder) → new ≡ record old { own = option_map (extended front) old.own } → LeavesOldOrCut (bytes_in new.own) (MayLeave old) (MayLeave new)
extended_cut front old new is image left = elim (subst (λ (folder : Folder). MayLeave folder image) is left) [
  | inl here ↦
      let cut = extended_leaves front old.own image here in
      inr (subst (λ (folder : Folder). IsPrefixOf image (bytes_in folder.own)) (sym is) cut.0, (cut.1.0, inl cut.1.1, cut.1.2))
  | inr back ↦ inl (inr back)
]

pub append_cut : (bytes : List ℕ) (old new : Folder) (fault : Option DiskFault) → IsLeft (Append Own bytes) old fault new → LeavesOldOrCut (bytes_in new.own) (MayLeave old) (MayLeave new)
append_cut bytes old new None left = extended_cut bytes old new left.1
append_cut bytes old new (Some Device) left = extended_cut left.0 old new left.2
append_cut bytes old new (Some Memory) left = λ image is. inl (subst (λ (folder : Folder). MayLeave folder image) left is)

pub append_earlier : (bytes : List ℕ) (old new : Folder) (fault : Option DiskFault) → IsLeft (Append Own bytes) old fault new → new.earlier ≡ old.earlier
append_earlier bytes old new None left = ap (λ (folder : Folder). folder.earlier) left.1
append_earlier bytes old new (Some Device) left = ap (λ (folder : Folder). folder.earlier) left.2
append_earlier bytes old new (Some Memory) left = ap (λ (folder : Folder). folder.earlier) left

extended_sure : (front : List ℕ) (file : Option File) → IsSure file → IsSure (option_map (extended front) file)
extended_sure front None sure there is = absurd (cc is)
extended_sure front (Some file) sure there is =
    let same : there ≡ extended front file = cc is in
    ap (λ (f : File). f.doubtful) same ∙ sure file refl

pub append_sure : (bytes : List ℕ) (old new : Folder) (fault : Option DiskFault) → IsLeft (Append Own bytes) old fault new → IsSure old.own → IsSure new.own
append_sure bytes old new None left sure = subst (λ (folder : Folder). IsSure folder.own) (sym left.1) (extended_sure bytes old.own sure)
append_sure bytes old new (Some Device) left sure = subst (λ (folder : Folder). IsSure folder.own) (sym left.2) (extended_sure left.0 old.own sure)
append_sure bytes old new (Some Memory) left sure = subst (λ (folder : Folder). IsSure folder.own) (sym left) sure

-- ---- replacing

pub make_kept : (old new : Folder) (fault : Option DiskFault) → IsLeft Make old fault new → IsButSecond old new
make_kept old new None left = record { own = ap (λ (folder : Folder). folder.own) left.1; earlier = ap (λ (folder : Folder). folder.earlier) left.1 }
make_kept old new (Some Device) left = record { own = ap (λ (folder : Folder). folder.own) left.1; earlier = ap (λ (folder : Folder). folder.earlier) left.1 }
make_kept old new (Some Memory) left = record { own = ap (λ (folder : Folder). folder.own) left; earlier = ap (λ (folder : Folder). folder.earlier) left }

pub append_kept : (bytes : List ℕ) (old new : Folder) (fault : Option DiskFault) → IsLeft (Append Second bytes) old fault new → IsButSecond old new
append_kept bytes old new None left = record { own = ap (λ (folder : Folder). folder.own) left.1; earlier = ap (λ (folder : Folder). folder.earlier) left.1 }
append_kept bytes old new (Some Device) left = record { own = ap (λ (folder : Folder). folder.own) left.2; earlier = ap (λ (folder : Folder). folder.earlier) left.2 }
append_kept bytes old new (Some Memory) left = record { own = ap (λ (folder : Folder). folder.own) left; earlier = ap (λ (folder : Folder). folder.earlier) left }

pub sync_kept : (old new : Folder) (fault : Option DiskFault) → IsLeft (Sync Second) old fault new → IsButSecond old new
sync_kept old new None left = record { own = ap (λ (folder : Folder). folder.own) left.1; earlier = ap (λ (folder : Folder). folder.earlier) left.1 }
sync_kept old new (Some Device) left = record { own = ap (λ (folder : Folder). folder.own) left; earlier = ap (λ (folder : Folder). folder.earlier) left }
sync_kept old new (Some Memory) left = record { own = ap (λ (folder : Folder). folder.own) left; earlier = ap (λ (folder : Folder). folder.earlier) left }

pub kept_on : (a b c : Folder) → IsButSecond a b → IsButSecond b c → IsButSecond a c
kept_on a b c first second = record { own = second.own ∙ first.own; earlier = second.earlier ∙ first.earlier }

pub kept_images : (old new : Folder) → IsButSecond old new → LeavesNoOther (MayLeave old) (MayLeave new)
kept_images old new kept = same_images old new kept.own kept.earlier

-- the second file was made, and has the bytes
pub second_written : {A : Type 0} (bytes : List ℕ) (old mid new : Folder) (result : Result A DiskFault) → mid ≡ done Make old → IsLeft (Append Second bytes) mid (error_of result) new → OnOk result (new.second ≡ Some (unsynced bytes))
second_written bytes old mid new (Ok x) made left = ap (λ (folder : Folder). folder.second) left.1 ∙ ap (λ (folder : Folder). option_map (extended bytes) folder.second) made
second_written bytes old mid new (Err fault) made left = tt

-- it is synced
pub second_synced : {A : Type 0} (bytes : List ℕ) (old new : Folder) (result : Result A DiskFault) → old.second ≡ Some (unsynced bytes) → IsLeft (Sync Second) old (error_of result) new → OnOk result (new.second ≡ Some (whole bytes))
second_synced bytes old new (Ok x) written left = ap (λ (folder : Folder). folder.second) left.1 ∙ ap (option_map synced) written
second_synced bytes old new (Err fault) written left = tt

-- The second file was renamed, and the names are synced.
pub second_placed : {A : Type 0} (old mid new : Folder) (result : Result A DiskFault) → mid ≡ done Rename old → IsLeft SyncNames mid (error_of result) new → OnOk result (new ≡ placed old)
second_placed old mid new (Ok x) renamed left = left.1 ∙ ap (λ (folder : Folder). record folder { earlier = [] }) renamed
second_placed old mid new (Err fault) renamed left = tt

pub place_failed : {A : Type 0} (old mid new : Folder) (result : Result A DiskFault) → mid ≡ done Rename old → IsLeft SyncNames mid (error_of result) new → OnErr result ((new ≡ old) ⊎ (new ≡ done Rename old))
place_failed old mid new (Ok x) renamed left = tt
place_failed old mid new (Err Device) renamed left = inr (left ∙ renamed)
place_failed old mid new (Err Memory) renamed left = inr (left ∙ renamed)

pub rename_failed : (old new : Folder) (fault : DiskFault) → IsLeft Rename old (Some fault) new → (new ≡ old) ⊎ (new ≡ done Rename old)
rename_failed old new Device left = left
rename_failed old new Memory left = inl left

pub rename_memory : (old new : Folder) (fault : DiskFault) → IsLeft Rename old (Some fault) new → fault ≡ Memory → new ≡ old
rename_memory old new Device left memory = absurd (cc memory)
rename_memory old new Memory left memory = left

-- what may be left after a rename could before, or is what is left of the second file
rename_leaves : (old : Folder) (image : List ℕ) → MayLeave (done Rename old) image → MayLeave old image ⊎ IsLeftOf old.second image
unfolding IsLeftOfOne
rename_leaves old image left = elim left [
  | inl here ↦ inr here
  | inr back ↦ elim back [ inl own ↦ inl (inl own) | inr earlier ↦ inl (inr earlier) ]
]

pub rename_images : (old new : Folder) (fault : Option DiskFault) → IsLeft Rename old fault new → (image : List ℕ) → MayLeave new image → MayLeave old image ⊎ IsLeftOf old.second image
rename_images old new None left image is = rename_leaves old image (subst (λ (folder : Folder). MayLeave folder image) left.1 is)
rename_images old new (Some Device) left image is = elim left [
  | inl same ↦ inl (subst (λ (folder : Folder). MayLeave folder image) same is)
  | inr renamed ↦ rename_leaves old image (subst (λ (folder : Folder). MayLeave folder image) renamed is)
]
rename_images old new (Some Memory) left image is = inl (subst (λ (folder : Folder). MayLeave folder image) left is)

-- of a second file that is synced whole only its bytes are left
pub whole_second : (old : Folder) (bytes image : List ℕ) → old.second ≡ Some (whole bytes) → MayLeave old image ⊎ IsLeftOf old.second image → MayLeave old image ⊎ (image ≡ bytes)
whole_second old bytes image is left = elim left [
  | inl was ↦ inl was
  | inr second ↦ inr (whole_is_left bytes image (subst (λ (file : Option File). IsLeftOf file image) is second))
]

pub placed_synced : {A : Type 0} (bytes : List ℕ) (mid new : Folder) (result : Result A DiskFault) → mid.second ≡ Some (whole bytes) → OnOk result (new ≡ placed mid) → OnOk result (IsSynced new bytes)
placed_synced bytes mid new (Ok x) second is = record { own = ap (λ (folder : Folder). folder.own) is ∙ second; names = ap (λ (folder : Folder). folder.earlier) is }
placed_synced bytes mid new (Err fault) second is = tt

-- After a replacement the own file is the one from before or the new one.
pub placed_own : {A : Type 0} (bytes : List ℕ) (old mid new : Folder) (result : Result A DiskFault) → IsButSecond old mid → mid.second ≡ Some (whole bytes) → OnOk result (new ≡ placed mid) → OnErr result ((new ≡ mid) ⊎ (new ≡ done Rename mid)) →
    (new.own ≡ old.own) ⊎ (new.own ≡ Some (whole bytes))
placed_own bytes old mid new (Ok x) kept second ok err = inr (ap (λ (folder : Folder). folder.own) ok ∙ second)
placed_own bytes old mid new (Err fault) kept second ok err = elim err [
  | inl same ↦ inl (ap (λ (folder : Folder). folder.own) same ∙ kept.own)
  | inr renamed ↦ inr (ap (λ (folder : Folder). folder.own) renamed ∙ second)
]

placed_leaves : {A : Type 0} (bytes : List ℕ) (mid new : Folder) (result : Result A DiskFault) → mid.second ≡ Some (whole bytes) → OnOk result (new ≡ placed mid) → OnErr result ((new ≡ mid) ⊎ (new ≡ done Rename mid)) →
    (image : List ℕ) → MayLeave new image → MayLeave mid image ⊎ IsLeftOf mid.second image
placed_leaves bytes mid new (Ok x) second ok err image is = elim (subst (λ (folder : Folder). MayLeave folder image) ok is) [
  | inl here ↦ inr here
  | inr back ↦ absurd (no_file_is_left image back)
]
placed_leaves bytes mid new (Err fault) second ok err image is = elim err [
  | inl same ↦ inl (subst (λ (folder : Folder). MayLeave folder image) same is)
  | inr renamed ↦ rename_leaves mid image (subst (λ (folder : Folder). MayLeave folder image) renamed is)
]

pub placed_images : {A : Type 0} (bytes : List ℕ) (old mid new : Folder) (result : Result A DiskFault) → IsButSecond old mid → mid.second ≡ Some (whole bytes) → OnOk result (new ≡ placed mid) → OnErr result ((new ≡ mid) ⊎ (new ≡ done Rename mid)) →
    LeavesOldOr bytes (MayLeave old) (MayLeave new)
placed_images bytes old mid new result kept second ok err image is = elim (whole_second mid bytes image second (placed_leaves bytes mid new result second ok err image is)) [
  | inl was ↦ inl (kept_images old mid kept image was)
  | inr bytes_are ↦ inr bytes_are
]

-- a new file is sure
pub whole_sure : (folder : Folder) (bytes : List ℕ) → folder.own ≡ Some (whole bytes) → IsSure folder.own
whole_sure folder bytes is there own = cc (is, own)
