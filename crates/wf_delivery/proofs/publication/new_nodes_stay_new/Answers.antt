use Rattle.wf_delivery.proofs.NewNodes.{new_stay_new}
use Rattle.wf_delivery.proofs.publication.new_nodes_stay_new.Goals as goal

pub returns : goal.returns
returns g c = new_stay_new g.T.Tape
