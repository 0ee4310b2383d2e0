use Rattle.wf_histories.proofs.Replaced.{are_timeline}
use Rattle.wf_histories.proofs.theorem.replaced_nodes_are_a_timeline.Goals as goal

pub returns : goal.returns
returns g c =
    are_timeline g.T.Tape c.records_are_read_one_way.ensures.one c.a_compared_node_goes_on.ensures c.runs_receive_their_own.ensures c.sent_messages_are_carried.ensures
    c.folders_join_by_learning.ensures
