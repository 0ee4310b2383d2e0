use Rattle.wf_rejoin.proofs.Voters as voters
use Rattle.wf_rejoin.proofs.theorem.counts_never_fall.Goals as goal

pub returns : goal.returns
returns c = voters.counts_never_fall
