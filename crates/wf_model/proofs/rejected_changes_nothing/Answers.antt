use Rattle.wf_model.specs.StepsTheorems.{rejected_changes_nothing}
use Rattle.wf_model.proofs.rejected_changes_nothing.Goals as goal

pub returns : goal.returns
returns g c = rejected_changes_nothing _
