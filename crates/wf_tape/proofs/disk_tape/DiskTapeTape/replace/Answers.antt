-- The bytes are the only image.
use Rattle.wf_tape.proofs.Folders.{only_synced}
use Rattle.wf_tape.proofs.disk_tape.DiskTapeTape.replace.Goals as goal

pub returns-in-Ok-clause-synced : goal.returns-in-Ok-clause-synced
returns-in-Ok-clause-synced g c = λ durable. only_synced (g.D.Disk.folder c.replace.new.disk) c.args.bytes.now (c.in-Ok.ensures.ok durable)
