use Rattle.wf_delivery.proofs.Outcomes.{step_is_answered}
use Rattle.wf_delivery.proofs.theorem.a_step_is_answered.Goals as goal

pub returns : goal.returns
returns g c = step_is_answered g.T.Tape
