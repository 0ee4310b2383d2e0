use Rattle.wf_safety.proofs.Theorems.{own_ballots}
use Rattle.wf_safety.proofs.own_ballots.Goals as goal

pub returns : goal.returns
returns g c = own_ballots _
