use Rattle.wf_wms.proofs.RejectionTheorem.{rejected_alike}
use Rattle.wf_wms.proofs.theorem.texts_are_rejected_alike.Goals as goal

pub returns : goal.returns
returns c = rejected_alike
