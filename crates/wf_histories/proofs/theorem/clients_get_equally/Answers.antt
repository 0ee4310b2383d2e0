use Rattle.wf_histories.proofs.Killed.{get_equally}
use Rattle.wf_histories.proofs.theorem.clients_get_equally.Goals as goal

pub returns : goal.returns
returns g c = get_equally g.T.Tape c.nodes_agree.ensures
