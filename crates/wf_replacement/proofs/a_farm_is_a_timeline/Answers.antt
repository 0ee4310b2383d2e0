use Rattle.wf_replacement.proofs.Farms.{farm_is_timeline}
use Rattle.wf_replacement.proofs.a_farm_is_a_timeline.Goals as goal

pub returns : goal.returns
returns g c = farm_is_timeline g.T.Tape
