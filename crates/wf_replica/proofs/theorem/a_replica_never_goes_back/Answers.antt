use Rattle.wf_replica.proofs.Reported.{never_goes_back}
use Rattle.wf_replica.proofs.theorem.a_replica_never_goes_back.Goals as goal

pub returns : goal.returns
returns c = never_goes_back
