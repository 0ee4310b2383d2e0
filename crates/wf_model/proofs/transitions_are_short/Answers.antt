use Rattle.wf_model.proofs.Short.{transitions_are_short}
use Rattle.wf_model.proofs.transitions_are_short.Goals as goal

pub returns : goal.returns
returns g c = transitions_are_short _
