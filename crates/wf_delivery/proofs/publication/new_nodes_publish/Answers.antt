use Rattle.wf_delivery.proofs.Published.{published_on_all}
use Rattle.wf_delivery.proofs.publication.new_nodes_publish.Goals as goal

pub returns : goal.returns
returns g c = published_on_all g.T.Tape
