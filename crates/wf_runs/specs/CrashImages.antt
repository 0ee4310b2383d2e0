-- What a durable tape gives: an opening that is cut off leaves what reads alike; and however a
-- process ends, its disk leaves what a run leaves.
use Rattle.std.specs.Prelude.{◌≡◌, ℕ, true, false, List}
use Rattle.wf_execution.specs.Run.{Input, Run, last, Between, Failed, HasLeft, IsRun}
use Rattle.wf_def.specs.Definition.{Definition}
use Rattle.wf_disk.specs.Folder.{Folder, bytes_in, IsProcessEnded}
use Rattle.wf_disk.specs.declared.disk.Disk.{Ghosts as Disk}
use Rattle.wf_journal.specs.Journal.{Follows, ReadsSame}
use Rattle.wf_model.specs.DurableState.{DurableState}
use Rattle.wf_node.specs.Images.{AllStandFor, StandsFor}
use Rattle.wf_node.specs.Node.{stored_of}
use Rattle.wf_tape.specs.Change.{inside}
use Rattle.wf_tape.specs.DiskTape.{DiskTape, images_of}
use Rattle.wf_tape.specs.declared.tape.Tape.{Ghosts as Tape}
use Rattle.wf_runs.specs.Folder.{ReadsAlike}

-- A crash inside the call that opens a node, by what that call promises (`Node::open`): it leaves
-- what reads alike to something that one before the call could leave.
abbrev pub OpeningReadsAlike : {T : Type 0} → Tape T → Type 0
OpeningReadsAlike {T} tapes = (old new : T) → Follows ReadsSame (tapes.images old) (inside tapes old new) → (image : List ℕ) → inside tapes old new image →
    (earlier : List ℕ) × tapes.images old earlier × ReadsAlike earlier image

-- Inside the call that shortens its tape then (`Node::shorten`): it leaves what reads alike to the
-- bytes that were read.
abbrev pub ShorteningReadsAlike : {T : Type 0} → Tape T → Type 0
ShorteningReadsAlike {T} tapes = (old new : T) (stored : DurableState Definition) (bytes : List ℕ) → StandsFor stored bytes → AllStandFor stored (inside tapes old new) → (image : List ℕ) → inside tapes old new image →
    ReadsAlike bytes image

-- The process ends, by a kill or with the power, while the node runs and its durable state is on
-- its tape, as after each call of the node.
abbrev pub DiskLeavesBetween : {D : Type 0} → Disk D → Type 0
DiskLeavesBetween {D} disks = (run : Run (DiskTape D)) (folder : Folder) → (last run).halted ≡ false → AllStandFor (stored_of (last run)) (images_of disks (last run).tape.disk) →
    IsProcessEnded (disks.folder (last run).tape.disk) folder → HasLeft run Between (bytes_in folder.own)

-- It ends after the node's tape has failed, within the step of some input.
abbrev pub DiskLeavesFailed : {D : Type 0} → Disk D → Tape (DiskTape D) → Type 0
DiskLeavesFailed {D} disks tapes = tapes.durable → (n i : ℕ) (bytes : List ℕ) (run : Run (DiskTape D)) (folder : Folder) → IsRun tapes n i bytes run → (last run).halted ≡ true →
    ((image : List ℕ) → images_of disks (last run).tape.disk image → tapes.images (last run).tape image) → IsProcessEnded (disks.folder (last run).tape.disk) folder →
    (input : Input) × HasLeft run (Failed input) (bytes_in folder.own)
