use Rattle.wf_delivery.proofs.OneRun.{agree_reached}
use Rattle.wf_delivery.proofs.reachability.reachable_nodes_agree.Goals as goal

pub returns : goal.returns
returns g c = agree_reached c.args.nodes.now
