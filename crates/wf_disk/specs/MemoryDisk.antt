-- A disk in memory: its folder, the folders before it, and its failures.
use Rattle.std.specs.Prelude.{◌⊎◌, ◌≤◌, ℕ, ◌+◌, nat_eq, List, [], ◌∷◌, ◌++◌, length, take, slice_index_or, Option, Some, None, option_map, if◌then◌else◌}
use Rattle.wf_disk.specs.declared.fault.DiskFault.{DiskFault}
use Rattle.wf_disk.specs.declared.fault.DiskFault.TheVariants.{Device}
use Rattle.wf_disk.specs.Moments.{last_count}
use Rattle.wf_disk.specs.Folder.{File, Folder, whole, MayLeave}

-- The folder; the folders before it, the latest first; the number of the call that will fail,
-- counted from 1 from now, or 0 for none, and how much it keeps; and the count of the failures that
-- were.
pub record DiskValue : Type 0 where
  pub folder : Folder
  pub past : List Folder
  pub call : ℕ
  pub kept : ℕ
  pub failures : ℕ

-- Of folders in order, the latest first, the earliest stood at moment 0, the next one at moment 1,
-- and so on. A power cut in one of them, at this moment or a later one, may leave the image.
unfoldable pub WasLeft : List Folder → ℕ → List ℕ → Type 0
WasLeft [] moment image = ⊥
WasLeft (folder ∷ older) moment image = ((moment ≤ length older) × MayLeave folder image) ⊎ WasLeft older moment image

-- the moment now: the number of calls so far
abbrev pub moment_of : DiskValue → ℕ
moment_of disk = length disk.past

-- what a power cut at this moment or a later one, up to now, could have left
abbrev pub IsFileLeftSince : DiskValue → ℕ → List ℕ → Type 0
IsFileLeftSince disk moment image = WasLeft (disk.folder ∷ disk.past) moment image

-- one more failure, unless the count is at its highest
unfoldable pub risen : ℕ → ℕ
risen count = if nat_eq count last_count then count else count + 1

-- the file after a power cut that keeps so many of the bytes that weren't synced, at most all of
-- them
abbrev pub left_by : ℕ → File → File
left_by keep file = whole (file.synced ++ take keep file.rest)

-- The file that a power cut puts back: 0 for the one that is there, then those before it, the
-- latest first. Where there are fewer, it is the one that is there.
abbrev pub file_back : ℕ → Folder → Option File
file_back back folder = slice_index_or (folder.own ∷ folder.earlier) back folder.own

-- the folder after a power cut that puts back that file and keeps so much of it
abbrev pub cut_to : ℕ → ℕ → Folder → Folder
cut_to back keep folder = record { own = option_map (left_by keep) (file_back back folder); second = folder.second; earlier = [] }

-- how much is kept by the next call, if that one fails
unfoldable pub burn : ℕ → ℕ → Option ℕ
burn call kept = if nat_eq call 1 then Some kept else None

-- the error of a call that fails after it has done what it is for, or after it couldn't
abbrev pub fault_after : Option DiskFault → DiskFault
fault_after None = Device
fault_after (Some fault) = fault
