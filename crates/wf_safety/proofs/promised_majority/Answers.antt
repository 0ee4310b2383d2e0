use Rattle.wf_safety.proofs.Theorems.{promised_majority}
use Rattle.wf_safety.proofs.promised_majority.Goals as goal

pub returns : goal.returns
returns g c = promised_majority _
