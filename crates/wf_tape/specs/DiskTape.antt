-- A tape on a disk, and what its calls do to the disk's folder.
use Rattle.std.specs.Prelude.{◌≡◌, ℕ, Bool, true, false, List, [], Option, Some, None}
use Rattle.wf_disk.specs.declared.disk.Disk.{Ghosts as Disk}
use Rattle.wf_disk.specs.declared.fault.DiskFault.{DiskFault}
use Rattle.wf_disk.specs.declared.fault.DiskFault.TheVariants as disk
use Rattle.wf_disk.specs.Moments.{Elapses}
use Rattle.wf_disk.specs.Folder.{File, Folder, bytes_in, MayLeave}
use Rattle.wf_tape.specs.declared.fault.TapeFault.{TapeFault}
use Rattle.wf_tape.specs.declared.fault.TapeFault.TheVariants as tape

-- the model of a tape on a disk: the disk, whether its names are synced, and whether the own file
-- may be doubtful
pub record DiskTape (D : Type 0) : Type 0 where
  pub disk : D
  pub are_names_synced : Bool
  pub doubtful : Bool

-- no sync of the file has failed
abbrev pub IsSure : Option File → Type 0
IsSure file = (there : File) → file ≡ Some there → there.doubtful ≡ false

-- what the tape knows of its folder
pub record IsKnownOfFolder (are_names_synced doubtful : Bool) (folder : Folder) : Type 0 where
  pub names : are_names_synced ≡ true → folder.earlier ≡ []
  pub sure : doubtful ≡ false → IsSure folder.own

-- the tape's error for that of the disk
abbrev pub tape_fault : DiskFault → TapeFault
tape_fault disk.Device = tape.Device
tape_fault disk.Memory = tape.Memory

-- the file with these bytes, none of them synced
abbrev pub unsynced : List ℕ → File
unsynced bytes = record { synced = []; rest = bytes; doubtful = false }

-- only the second file differs
pub record IsButSecond (old new : Folder) : Type 0 where
  pub own : new.own ≡ old.own
  pub earlier : new.earlier ≡ old.earlier

-- the second file has the own name, and the names are synced
abbrev pub placed : Folder → Folder
placed folder = record { own = folder.second; second = None; earlier = [] }

-- Calls in turn: time goes on, and a power cut inside them leaves only what P says.
pub record LeavesOnly {D : Type 0} (disks : Disk D) (P : List ℕ → Type 0) (old new : D) : Type 0 where
  pub time : Elapses (disks.moment old) (disks.moment new) (disks.left_since old) (disks.left_since new)
  pub inside : (image : List ℕ) → disks.left_since new (disks.moment old) image → P image

-- what a power cut may leave now
abbrev pub images_of : {D : Type 0} → Disk D → D → List ℕ → Type 0
images_of disks disk = MayLeave (disks.folder disk)

-- the bytes of the own file
abbrev pub content_of : {D : Type 0} → Disk D → D → List ℕ
content_of disks disk = bytes_in (disks.folder disk).own
