use Rattle.wf_model.proofs.Folds.{folds_are_open}
use Rattle.wf_model.proofs.folds_are_open.Goals as goal

pub returns : goal.returns
returns g c = folds_are_open _
