use Rattle.wf_ballot.specs.QuorumTheorems.{majority_sets_meet}
use Rattle.wf_ballot.proofs.majority.majorities_meet.Goals as goal

pub returns : goal.returns
returns c = majority_sets_meet
