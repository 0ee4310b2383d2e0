use Rattle.wf_safety.proofs.Theorems.{agreement}
use Rattle.wf_safety.proofs.agreement.Goals as goal

pub returns : goal.returns
returns g c = agreement _
