use Rattle.wf_safety.proofs.Theorems.{kept_promises}
use Rattle.wf_safety.proofs.kept_promises.Goals as goal

pub returns : goal.returns
returns g c = kept_promises _
