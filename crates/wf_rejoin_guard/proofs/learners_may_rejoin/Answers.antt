use Rattle.wf_rejoin_guard.proofs.Learners.{learners_may}
use Rattle.wf_rejoin_guard.proofs.learners_may_rejoin.Goals as goal

pub returns : goal.returns
returns g c = learners_may g.T.Tape c.learned_tapes_are_copies.ensures c.chosen_messages_are_published.ensures c.joined_folders_may_rejoin.ensures c.timelines_agree.ensures.history
