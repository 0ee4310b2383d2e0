use Rattle.wf_safety.proofs.Copies.{copied_tapes}
use Rattle.wf_safety.proofs.copied_tapes.Goals as goal

pub returns : goal.returns
returns g c = copied_tapes _
