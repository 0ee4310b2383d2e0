-- What durable tapes and disks leave.
use Rattle.std.proofs.Common.{subst}
use Rattle.wf_execution.specs.CrashImages.{LeavesFailed}
use Rattle.wf_def.specs.Definition.{Definition}
use Rattle.wf_disk.specs.Folder.{bytes_in}
use Rattle.wf_disk.specs.FolderTheorems.{EndsInAnImage}
use Rattle.wf_disk.specs.declared.disk.Disk.{Ghosts as Disk}
use Rattle.wf_journal.specs.Records.{AreReadOneWay}
use Rattle.wf_model.specs.DurableState.{DurableState}
use Rattle.wf_node.specs.Images.{StandsFor}
use Rattle.wf_tape.specs.DiskTape.{DiskTape}
use Rattle.wf_tape.specs.declared.tape.Tape.{Ghosts as Tape}
use Rattle.wf_runs.specs.CrashImages.{OpeningReadsAlike, ShorteningReadsAlike, DiskLeavesBetween, DiskLeavesFailed}
use Rattle.wf_runs.proofs.Left.{stands_once}

pub opening_reads_alike : {T : Type 0} (tapes : Tape T) → OpeningReadsAlike tapes
opening_reads_alike tapes = λ old new follows image left.
    let earlier = follows image left in
    (earlier.0, earlier.1, λ stored stands. record { records = stands.records; reads = earlier.2 stands.records stands.reads; folds = stands.folds })

pub shortening_reads_alike : AreReadOneWay → {T : Type 0} (tapes : Tape T) → ShorteningReadsAlike tapes
shortening_reads_alike theorem tapes = λ old new stored bytes stands all image left other also.
    subst (λ (s : DurableState Definition). StandsFor s image) (stands_once theorem stored other bytes stands also) (all image left)

pub disk_leaves_between : EndsInAnImage → {D : Type 0} (disks : Disk D) → DiskLeavesBetween disks
disk_leaves_between ends disks = λ run folder runs stands ended. (runs, stands (bytes_in folder.own) (ends _ folder ended))

pub disk_leaves_failed : EndsInAnImage → {D : Type 0} (disks : Disk D) (tapes : Tape (DiskTape D)) → LeavesFailed tapes → DiskLeavesFailed disks tapes
disk_leaves_failed ends disks tapes theorem = λ durable n i bytes run folder is halts images ended.
    let failed = theorem durable n i bytes run is halts in
    (failed.input, failed.leaves (bytes_in folder.own) (images (bytes_in folder.own) (ends _ folder ended)))
