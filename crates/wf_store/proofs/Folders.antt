-- What the calls of a replacement leave in a disk's folder.
use Rattle.std.proofs.Common.{◌≡◌, ◌⊎◌, List, [], Option, Some, None, option_map, Result, Ok, Err, OnOk, ap, subst, ◌∙◌, inl, inr}
use Rattle.std.specs.Prelude.{ℕ}
use Rattle.wf_disk.specs.declared.fault.DiskFault.{DiskFault}
use Rattle.wf_disk.specs.declared.fault.DiskFault.TheVariants.{Device, Memory}
use Rattle.wf_disk.specs.declared.folder.Name.TheVariants.{Second}
use Rattle.wf_disk.specs.Folder.{File, Folder, whole, IsLeftOf, IsLeftOfOne, MayLeave, IsSynced}
use Rattle.wf_disk.specs.FolderTheorems.{whole_is_left, no_file_is_left}
use Rattle.wf_disk.specs.Call.{Make, Append, Sync, Rename, SyncNames, done, extended, synced, IsLeft, error_of}
use Rattle.wf_tape.specs.Tape.{LeavesNoOther}
use Rattle.wf_tape.specs.DiskTape.{IsButSecond, unsynced, placed}

-- the same own file, and the same to put back: the same images
pub same_images : (old new : Folder) → new.own ≡ old.own → new.earlier ≡ old.earlier → LeavesNoOther (MayLeave old) (MayLeave new)
same_images old new own earlier image left = elim left [
  | inl here ↦ inl (subst (λ (file : Option File). IsLeftOf file image) own here)
  | inr back ↦ inr (subst (λ (files : List (Option File)). IsLeftOfOne files image) earlier back)
]

pub make_kept : (old new : Folder) (fault : Option DiskFault) → IsLeft Make old fault new → IsButSecond old new
make_kept old new None left = record { own = ap (λ (folder : Folder). folder.own) left.1; earlier = ap (λ (folder : Folder). folder.earlier) left.1 }
make_kept old new (Some Device) left = record { own = ap (λ (folder : Folder). folder.own) left.1; earlier = ap (λ (folder : Folder). folder.earlier) left.1 }
make_kept old new (Some Memory) left = record { own = ap (λ (folder : Folder). folder.own) left; earlier = ap (λ (folder : Folder). folder.earlier) left }

pub append_kept : (bytes : List ℕ) (old new : Folder) (fault : Option DiskFault) → IsLeft (Append Second bytes) old fault new → IsButSecond old new
append_kept bytes old new None left = record { own = ap (λ (folder : Folder). folder.own) left.1; earlier = ap (λ (folder : Folder). folder.earlier) left.1 }
append_kept bytes old new (Some Device) left = record { own = ap (λ (folder : Folder). folder.own) left.2; earlier = ap (λ (folder : Folder). folder.earlier) left.2 }
append_kept bytes old new (Some Memory) left = record { own = ap (λ (folder : Folder). folder.own) left; earlier = ap (λ (folder : Folder). folder.earlier) left }

pub sync_kept : (old new : Folder) (fault : Option DiskFault) → IsLeft (Sync Second) old fault new → IsButSecond old new
sync_kept old new None left = record { own = ap (λ (folder : Folder). folder.own) left.1; earlier = ap (λ (folder : Folder). folder.earlier) left.1 }
sync_kept old new (Some Device) left = record { own = ap (λ (folder : Folder). folder.own) left; earlier = ap (λ (folder : Folder). folder.earlier) left }
sync_kept old new (Some Memory) left = record { own = ap (λ (folder : Folder). folder.own) left; earlier = ap (λ (folder : Folder). folder.earlier) left }

pub kept_on : (a b c : Folder) → IsButSecond a b → IsButSecond b c → IsButSecond a c
kept_on a b c first second = record { own = second.own ∙ first.own; earlier = second.earlier ∙ first.earlier }

pub kept_images : (old new : Folder) → IsButSecond old new → LeavesNoOther (MayLeave old) (MayLeave new)
kept_images old new kept = same_images old new kept.own kept.earlier

-- the second file was made, and has the bytes
pub second_written : {A : Type 0} (bytes : List ℕ) (old mid new : Folder) (result : Result A DiskFault) → mid ≡ done Make old → IsLeft (Append Second bytes) mid (error_of result) new → OnOk result (new.second ≡ Some (unsynced bytes))
second_written bytes old mid new (Ok x) made left = ap (λ (folder : Folder). folder.second) left.1 ∙ ap (λ (folder : Folder). option_map (extended bytes) folder.second) made
second_written bytes old mid new (Err fault) made left = tt

-- it is synced
pub second_synced : {A : Type 0} (bytes : List ℕ) (old new : Folder) (result : Result A DiskFault) → old.second ≡ Some (unsynced bytes) → IsLeft (Sync Second) old (error_of result) new → OnOk result (new.second ≡ Some (whole bytes))
second_synced bytes old new (Ok x) written left = ap (λ (folder : Folder). folder.second) left.1 ∙ ap (option_map synced) written
second_synced bytes old new (Err fault) written left = tt

-- The second file was renamed, and the names are synced.
pub second_placed : {A : Type 0} (old mid new : Folder) (result : Result A DiskFault) → mid ≡ done Rename old → IsLeft SyncNames mid (error_of result) new → OnOk result (new ≡ placed old)
second_placed old mid new (Ok x) renamed left = left.1 ∙ ap (λ (folder : Folder). record folder { earlier = [] }) renamed
second_placed old mid new (Err fault) renamed left = tt

-- what may be left after a rename could before, or is what is left of the second file
rename_leaves : (old : Folder) (image : List ℕ) → MayLeave (done Rename old) image → MayLeave old image ⊎ IsLeftOf old.second image
unfolding IsLeftOfOne
rename_leaves old image left = elim left [
  | inl here ↦ inr here
  | inr back ↦ elim back [ inl own ↦ inl (inl own) | inr earlier ↦ inl (inr earlier) ]
]

pub rename_images : (old new : Folder) (fault : Option DiskFault) → IsLeft Rename old fault new → (image : List ℕ) → MayLeave new image → MayLeave old image ⊎ IsLeftOf old.second image
rename_images old new None left image is = rename_leaves old image (subst (λ (folder : Folder). MayLeave folder image) left.1 is)
rename_images old new (Some Device) left image is = elim left [
  | inl same ↦ inl (subst (λ (folder : Folder). MayLeave folder image) same is)
  | inr renamed ↦ rename_leaves old image (subst (λ (folder : Folder). MayLeave folder image) renamed is)
]
rename_images old new (Some Memory) left image is = inl (subst (λ (folder : Folder). MayLeave folder image) left is)

-- of a second file that is synced whole only its bytes are left
pub whole_second : (old : Folder) (bytes image : List ℕ) → old.second ≡ Some (whole bytes) → MayLeave old image ⊎ IsLeftOf old.second image → MayLeave old image ⊎ (image ≡ bytes)
whole_second old bytes image is left = elim left [
  | inl was ↦ inl was
  | inr second ↦ inr (whole_is_left bytes image (subst (λ (file : Option File). IsLeftOf file image) is second))
]

pub placed_synced : {A : Type 0} (bytes : List ℕ) (mid new : Folder) (result : Result A DiskFault) → mid.second ≡ Some (whole bytes) → OnOk result (new ≡ placed mid) → OnOk result (IsSynced new bytes)
placed_synced bytes mid new (Ok x) second is = record { own = ap (λ (folder : Folder). folder.own) is ∙ second; names = ap (λ (folder : Folder). folder.earlier) is }
placed_synced bytes mid new (Err fault) second is = tt

pub names_images : (old new : Folder) (fault : Option DiskFault) → IsLeft SyncNames old fault new → LeavesNoOther (MayLeave old) (MayLeave new)
names_images old new None left image is = elim (subst (λ (folder : Folder). MayLeave folder image) left.1 is) [
  | inl here ↦ inl here
  | inr back ↦ absurd (no_file_is_left image back)
]
names_images old new (Some Device) left image is = subst (λ (folder : Folder). MayLeave folder image) left is
names_images old new (Some Memory) left image is = subst (λ (folder : Folder). MayLeave folder image) left is
