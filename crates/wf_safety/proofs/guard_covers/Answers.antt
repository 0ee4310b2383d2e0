use Rattle.wf_safety.proofs.Guard.{guard_covers}
use Rattle.wf_safety.proofs.guard_covers.Goals as goal

pub returns : goal.returns
returns g c = guard_covers _
