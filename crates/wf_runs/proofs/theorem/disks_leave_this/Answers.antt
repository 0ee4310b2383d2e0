use Rattle.wf_runs.proofs.CrashImages.{disk_leaves_between, disk_leaves_failed}
use Rattle.wf_runs.proofs.theorem.disks_leave_this.Goals as goal

pub returns-clause-between : goal.returns-clause-between
returns-clause-between g c = disk_leaves_between c.a_process_ends_in_an_image.ensures g.D.Disk

pub returns-clause-failed : goal.returns-clause-failed
returns-clause-failed g c = disk_leaves_failed c.a_process_ends_in_an_image.ensures g.D.Disk _ c.durable_tapes_leave_this.ensures.failed
