use Rattle.wf_histories.proofs.Emptied.{joined_may_vote}
use Rattle.wf_histories.proofs.theorem.joined_folders_may_vote.Goals as goal

pub returns : goal.returns
returns g c = joined_may_vote g.T.Tape c.records_are_read_one_way.ensures.one
