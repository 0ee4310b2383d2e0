-- Theorems about the moments of a disk in memory.
use Rattle.std.specs.Prelude.{ℕ, ◌≤◌, List, [], ◌∷◌, length}
use Rattle.std.proofs.Common.{inl, inr, le_refl, le_trans, le_of_lt, lt_irrefl, lt_of_lt_of_le}
use Rattle.wf_disk.specs.Moments.{LeavesNow, AreNested}
use Rattle.wf_disk.specs.Folder.{Folder, MayLeave}
use Rattle.wf_disk.specs.MemoryDisk.{DiskValue, WasLeft, IsFileLeftSince, moment_of}

-- no folder stood at a moment that hasn't come
pub none_later : (folders : List Folder) (moment : ℕ) (image : List ℕ) → length folders ≤ moment → WasLeft folders moment image → ⊥
unfolding WasLeft
none_later [] moment image late left = left
none_later (folder ∷ older) moment image late left = elim left [
  | inl now ↦ lt_irrefl (length older) (lt_of_lt_of_le late now.0)
  | inr before ↦ none_later older moment image (le_of_lt late) before
]

pub memory_now : (disk : DiskValue) → LeavesNow (MayLeave disk.folder) (IsFileLeftSince disk (moment_of disk))
unfolding WasLeft
memory_now disk = record {
  counts = λ image is. inl (le_refl (length disk.past), is);
  nothing_else = λ image left. elim left [
    | inl now ↦ now.1
    | inr before ↦ absurd (none_later disk.past (length disk.past) image (le_refl (length disk.past)) before)
  ];
}

left_earlier : (folders : List Folder) → AreNested (WasLeft folders)
unfolding WasLeft
left_earlier [] moment later image before left = left
left_earlier (folder ∷ older) moment later image before left = elim left [
  | inl now ↦ inl (le_trans before now.0, now.1)
  | inr past ↦ inr (left_earlier older moment later image before past)
]

pub memory_nested : (disk : DiskValue) → AreNested (IsFileLeftSince disk)
memory_nested disk = left_earlier (disk.folder ∷ disk.past)
