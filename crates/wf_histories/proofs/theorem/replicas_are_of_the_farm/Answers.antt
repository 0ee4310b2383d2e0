use Rattle.wf_histories.proofs.Replicas.{replicas_agree}
use Rattle.wf_histories.proofs.theorem.replicas_are_of_the_farm.Goals as goal

pub returns : goal.returns
returns g c =
    replicas_agree g.N.Tape g.R.Tape c.what_is_learned_is_served.ensures.learned c.replicas_agree.ensures.history c.replicas_answer_alike.ensures.proposal_state c.replicas_answer_alike.ensures.map
    c.a_replica_never_goes_back.ensures
