use Rattle.wf_replica.proofs.Reported.{beginnings_are_served, learned_are_served}
use Rattle.wf_replica.proofs.theorem.what_is_learned_is_served.Goals as goal

pub returns-clause-learned : goal.returns-clause-learned
returns-clause-learned g c = learned_are_served

pub returns-clause-beginning : goal.returns-clause-beginning
returns-clause-beginning g c = beginnings_are_served
