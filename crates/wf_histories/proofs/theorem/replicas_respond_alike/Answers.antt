use Rattle.wf_histories.proofs.Responses.{farms_get_equally}
use Rattle.wf_histories.proofs.theorem.replicas_respond_alike.Goals as goal

pub returns : goal.returns
returns g c = farms_get_equally g.N.Tape g.R.Tape c.replicas_are_of_the_farm.ensures
