use Rattle.wf_delivery.proofs.Exactly.{delivered_exactly}
use Rattle.wf_delivery.proofs.publication.deliveries_are_rounds.Goals as goal

pub returns : goal.returns
returns g c = delivered_exactly g.T.Tape
