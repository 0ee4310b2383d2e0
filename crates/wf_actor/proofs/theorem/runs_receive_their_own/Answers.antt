use Rattle.wf_actor.proofs.Farms.{runs_are_own}
use Rattle.wf_actor.proofs.theorem.runs_receive_their_own.Goals as goal

pub returns : goal.returns
returns c = runs_are_own
