use Rattle.wf_wms.proofs.ServiceTheorem.{answered_alike}
use Rattle.wf_wms.proofs.theorem.asked_maps_are_answered_alike.Goals as goal

pub returns : goal.returns
returns c = answered_alike
