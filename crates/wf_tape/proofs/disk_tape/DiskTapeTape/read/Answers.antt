-- The content is an image.
use Rattle.std.proofs.Common.{inl}
use Rattle.wf_disk.specs.FolderTheorems.{content_is_left}
use Rattle.wf_tape.proofs.Turns.{on_ok_anyway}
use Rattle.wf_tape.proofs.disk_tape.DiskTapeTape.read.Goals as goal

pub returns-clause-image : goal.returns-clause-image
returns-clause-image g c = λ durable. on_ok_anyway c.match-read.result (inl (content_is_left (g.D.Disk.folder c.args.self.now.disk).own))
