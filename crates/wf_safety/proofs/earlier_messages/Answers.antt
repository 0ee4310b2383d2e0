use Rattle.wf_safety.proofs.Earlier.{earlier_messages}
use Rattle.wf_safety.proofs.earlier_messages.Goals as goal

pub returns : goal.returns
returns g c = earlier_messages _
