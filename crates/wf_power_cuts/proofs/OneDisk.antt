-- One call on a disk in memory: what a power cut leaves of it.
use Rattle.std.proofs.Common.{◌≡◌, ◌⊎◌, ◌∙◌, ℕ, ◌≤◌, List, [], inl, inr, refl, subst, le_refl}
use Rattle.std.specs.Prelude.{Option, Some, Result, OnOk, Ok, Err}
use Rattle.wf_disk.specs.Folder.{File, Folder, IsLeftOf, IsLeftOfOne, IsSynced, MayLeave}
use Rattle.wf_disk.specs.FolderTheorems.{no_file_is_left, whole_is_left}
use Rattle.wf_disk.specs.MemoryDisk.{DiskValue, IsFileLeftSince, moment_of}
use Rattle.wf_disk.specs.MemoryMoments.{memory_nested, memory_now}
use Rattle.wf_disk.specs.Moments.{Elapses, LeavesOldOrNew}
use Rattle.wf_power_cuts.specs.Disks.{LeavesOnDisk}

-- of a synced file the bytes alone
pub left_alone : (folder : Folder) (bytes image : List ℕ) → IsSynced folder bytes → MayLeave folder image → image ≡ bytes
left_alone folder bytes image synced left = elim left [
  | inl own ↦ whole_is_left bytes image (subst (λ (file : Option File). IsLeftOf file image) synced.own own)
  | inr back ↦ absurd (no_file_is_left image (subst (λ (files : List (Option File)). IsLeftOfOne files image) synced.names back))
]

pub left_alone_on : {E : Type 0} (result : Result (Unit {0}) E) (folder : Folder) (bytes : List ℕ) → OnOk result (IsSynced folder bytes) → OnOk result ((image : List ℕ) → MayLeave folder image → image ≡ bytes)
left_alone_on (Ok done) folder bytes synced = λ image left. left_alone folder bytes image synced left
left_alone_on (Err error) folder bytes synced = tt

-- what it could have left inside the call says also what it may leave after it
pub left_or : (P : List ℕ → Type 0) (old new : DiskValue) → Elapses (moment_of old) (moment_of new) (IsFileLeftSince old) (IsFileLeftSince new)
    → ((image : List ℕ) → IsFileLeftSince new (moment_of old) image → P image) → LeavesOnDisk P old new
left_or P old new time inside = record {
  after = λ image left. inside image (memory_nested new (moment_of old) (moment_of new) image time.later ((memory_now new).counts image left));
  inside = inside;
}

-- a call that leaves the folder as it was
pub left_reading : (old new : DiskValue) → Elapses (moment_of old) (moment_of new) (IsFileLeftSince old) (IsFileLeftSince new)
    → LeavesOldOrNew (MayLeave old.folder) (MayLeave new.folder) (IsFileLeftSince new (moment_of old)) → new.folder ≡ old.folder → LeavesOnDisk (MayLeave old.folder) old new
left_reading old new time inside same = left_or (MayLeave old.folder) old new time
    (λ image left. elim (inside image left) [ inl was ↦ was | inr is ↦ subst (λ (folder : Folder). MayLeave folder image) same is ])
