-- The second file is as it was.
use Rattle.std.proofs.Common.{refl}
use Rattle.wf_disk.proofs.failure.make.Goals as goal

pub returns-in-Some-eq0 : goal.returns-in-Some-eq0
returns-in-Some-eq0 c = (c.args.folder.now.second, refl)
