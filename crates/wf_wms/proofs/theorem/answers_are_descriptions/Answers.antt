use Rattle.wf_wms.proofs.ServiceTheorem.{as_described}
use Rattle.wf_wms.proofs.theorem.answers_are_descriptions.Goals as goal

pub returns : goal.returns
returns c = as_described
