use Rattle.wf_safety.proofs.Guard.{agreement_under_guard}
use Rattle.wf_safety.proofs.agreement_under_guard.Goals as goal

pub returns : goal.returns
returns g c = agreement_under_guard _
