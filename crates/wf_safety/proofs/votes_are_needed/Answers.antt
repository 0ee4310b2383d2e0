use Rattle.wf_safety.proofs.Examples.{votes_are_needed}
use Rattle.wf_safety.proofs.votes_are_needed.Goals as goal

pub returns : goal.returns
returns c = votes_are_needed
