-- A file that wasn't doubtful has its content as its only image.
use Rattle.std.proofs.Common.{ap, ◌∙◌}
use Rattle.wf_tape.proofs.Folders.{sync_only}
use Rattle.wf_tape.proofs.disk_tape.DiskTapeTape.sync.Goals as goal

pub returns-in-Ok-clause-ok : goal.returns-in-Ok-clause-ok
returns-in-Ok-clause-ok g c = λ durable sure.
    let known = c.self.invariant durable in
    let done = c.in-Ok.ensures.ok durable in
    sync_only (g.D.Disk.folder c.self.inside.disk) (g.D.Disk.folder c.sync.new.disk) done.0 done.1 (known.sure (ap (λ t. t.doubtful) c.self.view_is ∙ sure)) (c.in-Ok.ensures.names durable known.names)
