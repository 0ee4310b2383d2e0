-- The disks of a folder, one for each file, and what a power cut could have left on them.
use Rattle.std.specs.Prelude.{◌≡◌, ◌⊎◌, ℕ, nat_eq, Bool, true, false, List, [], ◌∷◌, None, map, reverse, if◌then◌else◌}
use Rattle.wf_disk.specs.Folder.{MayLeave}
use Rattle.wf_disk.specs.MemoryDisk.{DiskValue, IsFileLeftSince, moment_of}
use Rattle.wf_power_cuts.specs.Cut.{CouldLeave, MayLeaveNow, is_file}
use Rattle.wf_store.specs.Call.{Call}
use Rattle.wf_store.specs.declared.file_name.FileName.{FileName}
use Rattle.wf_store.specs.declared.file_name.FileName.TheVariants.{Farm, Heard, Joins, NodeTape, Replaced, ReplicaTape}

-- the disks of the files; the tape is that of this node
pub record DiskSet : Type 0 where
  pub farm : DiskValue
  pub heard : DiskValue
  pub joins : DiskValue
  pub replaced : DiskValue
  pub node_tape : DiskValue
  pub replica_tape : DiskValue
  pub node : ℕ

-- a disk without files
abbrev pub no_files : DiskValue
no_files = record { folder = record { own = None; second = None; earlier = [] }; past = []; call = 0; kept = 0; failures = 0 }

-- there is a disk for the file: of another node's tape there is none
abbrev pub has_disk : DiskSet → FileName → Bool
has_disk disks (NodeTape node) = nat_eq disks.node node
has_disk disks file = true

abbrev pub disk_of : DiskSet → FileName → DiskValue
disk_of disks Farm = disks.farm
disk_of disks Heard = disks.heard
disk_of disks Joins = disks.joins
disk_of disks Replaced = disks.replaced
disk_of disks (NodeTape node) = if nat_eq disks.node node then disks.node_tape else no_files
disk_of disks ReplicaTape = disks.replica_tape

-- with this disk for the file
abbrev pub with_disk : DiskSet → FileName → DiskValue → DiskSet
with_disk disks Farm disk = record disks { farm = disk }
with_disk disks Heard disk = record disks { heard = disk }
with_disk disks Joins disk = record disks { joins = disk }
with_disk disks Replaced disk = record disks { replaced = disk }
with_disk disks (NodeTape node) disk = if nat_eq disks.node node then record disks { node_tape = disk } else disks
with_disk disks ReplicaTape disk = record disks { replica_tape = disk }

-- ---- one call on one of them

-- what a cut may leave of a disk after a call, and could have left inside it, is what P says
pub record LeavesOnDisk (P : List ℕ → Type 0) (old new : DiskValue) : Type 0 where
  pub after : (image : List ℕ) → MayLeave new.folder image → P image
  pub inside : (image : List ℕ) → IsFileLeftSince new (moment_of old) image → P image

-- an image was one before the call, or is these bytes
abbrev pub IsOldOr : DiskSet → FileName → List ℕ → List ℕ → Type 0
IsOldOr disks file bytes image = MayLeave (disk_of disks file).folder image ⊎ (image ≡ bytes)

-- the disk of a file leaves what P says, and the others are as they were
pub record ChangesDisk (file : FileName) (P : List ℕ → Type 0) (old new : DiskSet) : Type 0 where
  pub own : LeavesOnDisk P (disk_of old file) (disk_of new file)
  pub others : (other : FileName) → is_file file other ≡ false → disk_of new other ≡ disk_of old other

-- each disk leaves what it could before
abbrev pub AreOnlyRead : DiskSet → DiskSet → Type 0
AreOnlyRead old new = (file : FileName) → LeavesOnDisk (MayLeave (disk_of old file).folder) (disk_of old file) (disk_of new file)

-- ---- as time goes on
-- The disks before each call, the latest first.

-- disks without files, of this node
abbrev pub empty_disks : ℕ → DiskSet
empty_disks node = record { farm = no_files; heard = no_files; joins = no_files; replaced = no_files; node_tape = no_files; replica_tape = no_files; node = node }

-- what a cut at one moment so far could have left of all files: at a moment of the last call on
-- each disk, or of an earlier one
unfoldable pub WereLeft : DiskSet → List DiskSet → (FileName → List ℕ) → Type 0
WereLeft now [] images = (file : FileName) → MayLeave (disk_of now file).folder (images file)
WereLeft now (before ∷ older) images =
    ((file : FileName) → IsFileLeftSince (disk_of now file) (moment_of (disk_of before file)) (images file)) ⊎ WereLeft before older images

-- A power cut leaves what the calls say, now and at each moment so far.
pub record AreCutsTold (calls : List Call) (now : DiskSet) (past : List DiskSet) : Type 0 where
  pub now_told : (file : FileName) (image : List ℕ) → MayLeave (disk_of now file).folder image → MayLeaveNow calls file image
  pub told : (images : FileName → List ℕ) → WereLeft now past images → CouldLeave calls images

-- the disks before each call, of a list that has the latest last
abbrev pub past_of : List (DiskSet × Unit {0}) → List DiskSet
past_of notes = reverse (map (λ note. note.0) notes)

-- the disks, those before each call, and the calls
pub record DiskFolder : Type 0 where
  pub disks : DiskSet
  pub past : List DiskSet
  pub calls : List Call
