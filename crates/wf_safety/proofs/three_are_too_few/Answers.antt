use Rattle.wf_safety.proofs.Examples.{three_are_too_few}
use Rattle.wf_safety.proofs.three_are_too_few.Goals as goal

pub returns : goal.returns
returns c = three_are_too_few
