use Rattle.wf_histories.proofs.Farms.{nodes_are_farm}
use Rattle.wf_histories.proofs.theorem.nodes_are_one_farm.Goals as goal

pub returns : goal.returns
returns g c =
    nodes_are_farm c.records_are_read_one_way.ensures.one g.T.Tape c.a_compared_node_goes_on.ensures c.runs_receive_their_own.ensures c.sent_messages_are_carried.ensures
