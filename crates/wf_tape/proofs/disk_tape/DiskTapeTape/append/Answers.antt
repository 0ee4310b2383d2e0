-- Each image is one from before, or one of the new content.
use Rattle.std.proofs.Common.{ap, subst}
use Rattle.wf_disk.specs.Folder.{MayLeave, bytes_in}
use Rattle.wf_disk.specs.Call.{error_of}
use Rattle.wf_tape.specs.Tape.{LeavesOldOrCut}
use Rattle.wf_tape.proofs.Folders.{append_cut}
use Rattle.wf_tape.proofs.disk_tape.DiskTapeTape.append.Goals as goal

pub returns-clause-images : goal.returns-clause-images
returns-clause-images g c = λ durable no.
    let new = g.D.Disk.folder c.append.new.self in
    subst (λ disk. LeavesOldOrCut (bytes_in new.own) (MayLeave (g.D.Disk.folder disk)) (MayLeave new)) (ap (λ t. t.disk) c.self.view_is)
    (append_cut c.args.bytes.now (g.D.Disk.folder c.self.inside.disk) new (error_of c.append.result) (c.append.ensures.leaves durable))
