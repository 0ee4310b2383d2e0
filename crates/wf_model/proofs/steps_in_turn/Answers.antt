use Rattle.wf_model.specs.StepsTheorems.{steps_in_turn}
use Rattle.wf_model.proofs.steps_in_turn.Goals as goal

pub returns : goal.returns
returns g c = steps_in_turn _
