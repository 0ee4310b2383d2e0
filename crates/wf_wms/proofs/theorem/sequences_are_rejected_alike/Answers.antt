use Rattle.wf_wms.proofs.RejectionTheorem.{rejected_at}
use Rattle.wf_wms.proofs.theorem.sequences_are_rejected_alike.Goals as goal

pub returns : goal.returns
returns c = rejected_at
