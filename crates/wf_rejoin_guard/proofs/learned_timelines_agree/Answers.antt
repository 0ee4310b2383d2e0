use Rattle.wf_rejoin_guard.proofs.Learners.{learned_agree, learned_grow}
use Rattle.wf_rejoin_guard.proofs.learned_timelines_agree.Goals as goal

pub returns-clause-history : goal.returns-clause-history
returns-clause-history g c = learned_agree g.T.Tape c.learners_may_rejoin.ensures c.timelines_agree.ensures.history

pub returns-clause-grows : goal.returns-clause-grows
returns-clause-grows g c = learned_grow g.T.Tape c.learners_may_rejoin.ensures c.published_lists_grow.ensures
