use Rattle.wf_histories.proofs.Joiners.{have_learned}
use Rattle.wf_histories.proofs.theorem.joiners_have_learned.Goals as goal

pub returns : goal.returns
returns g c =
    have_learned g.T.Tape c.records_are_read_one_way.ensures.one c.a_compared_node_goes_on.ensures c.runs_receive_their_own.ensures c.sent_messages_are_carried.ensures
