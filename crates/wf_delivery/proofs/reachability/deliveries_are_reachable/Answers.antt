use Rattle.wf_delivery.proofs.OneRun.{deliveries_are_reachable}
use Rattle.wf_delivery.proofs.reachability.deliveries_are_reachable.Goals as goal

pub returns : goal.returns
returns g c = deliveries_are_reachable g.T.Tape
