use Rattle.wf_model.proofs.Folds.{votes_are_promised}
use Rattle.wf_model.proofs.votes_are_promised.Goals as goal

pub returns : goal.returns
returns g c = votes_are_promised _
