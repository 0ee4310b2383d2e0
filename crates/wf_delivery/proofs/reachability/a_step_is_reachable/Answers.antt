use Rattle.wf_delivery.proofs.OneRun.{step_is_reachable}
use Rattle.wf_delivery.proofs.reachability.a_step_is_reachable.Goals as goal

pub returns : goal.returns
returns g c = step_is_reachable g.T.Tape
