use Rattle.wf_runs.proofs.ServedSteps.{serving_is_steps}
use Rattle.wf_runs.proofs.theorem.a_serving_is_steps.Goals as goal

pub returns : goal.returns
returns g c = serving_is_steps g.T.Tape c.a_step_is_answered.ensures
