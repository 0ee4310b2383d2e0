use Rattle.wf_rejoin_guard.proofs.Guard.{joined_agree, joined_grow}
use Rattle.wf_rejoin_guard.proofs.joined_timelines_agree.Goals as goal

pub returns-clause-history : goal.returns-clause-history
returns-clause-history g c = joined_agree g.T.Tape c.joined_folders_may_rejoin.ensures c.timelines_agree.ensures.history

pub returns-clause-grows : goal.returns-clause-grows
returns-clause-grows g c = joined_grow g.T.Tape c.joined_folders_may_rejoin.ensures c.published_lists_grow.ensures
