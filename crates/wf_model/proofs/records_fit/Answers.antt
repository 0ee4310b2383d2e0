use Rattle.wf_model.proofs.Transitions.{records_fit}
use Rattle.wf_model.proofs.records_fit.Goals as goal

pub returns : goal.returns
returns g c = records_fit _
