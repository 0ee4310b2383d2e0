use Rattle.wf_rejoin_guard.proofs.Guard.{joined_may_rejoin}
use Rattle.wf_rejoin_guard.proofs.joined_folders_may_rejoin.Goals as goal

pub returns : goal.returns
returns g c = joined_may_rejoin g.T.Tape c.voters_are_guarded.ensures c.answers_are_bounds.ensures
