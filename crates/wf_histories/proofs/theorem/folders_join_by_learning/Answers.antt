use Rattle.wf_histories.proofs.Emptied.{join_by_learning}
use Rattle.wf_histories.proofs.theorem.folders_join_by_learning.Goals as goal

pub returns : goal.returns
returns g c = join_by_learning g.T.Tape c.joiners_have_learned.ensures c.joined_folders_may_vote.ensures
