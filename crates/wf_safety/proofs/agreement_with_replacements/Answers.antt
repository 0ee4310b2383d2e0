use Rattle.wf_safety.proofs.Replacement.{agreement_with_replacements}
use Rattle.wf_safety.proofs.agreement_with_replacements.Goals as goal

pub returns : goal.returns
returns g c = agreement_with_replacements _
