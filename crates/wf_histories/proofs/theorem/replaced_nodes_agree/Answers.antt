use Rattle.wf_histories.proofs.Replaced.{answer_alike, answer_maps_alike, never_differ, never_go_back, share_history}
use Rattle.wf_histories.proofs.theorem.replaced_nodes_agree.Goals as goal

pub returns-clause-history : goal.returns-clause-history
returns-clause-history g c = share_history g.T.Tape c.replaced_nodes_are_a_timeline.ensures c.learners_may_rejoin.ensures c.timelines_agree.ensures.history

pub returns-clause-definition : goal.returns-clause-definition
returns-clause-definition g c = never_differ g.T.Tape c.replaced_nodes_are_a_timeline.ensures c.learners_may_rejoin.ensures c.timelines_agree.ensures.definition

pub returns-clause-grow : goal.returns-clause-grow
returns-clause-grow g c = never_go_back g.T.Tape c.replaced_nodes_are_a_timeline.ensures c.learners_may_rejoin.ensures c.published_lists_grow.ensures

pub returns-clause-answer : goal.returns-clause-answer
returns-clause-answer g c = answer_alike g.T.Tape c.replaced_nodes_are_a_timeline.ensures c.learners_may_rejoin.ensures c.timelines_answer_alike.ensures.sequence

pub returns-clause-map : goal.returns-clause-map
returns-clause-map g c = answer_maps_alike g.T.Tape c.replaced_nodes_are_a_timeline.ensures c.learners_may_rejoin.ensures c.timelines_answer_alike.ensures.map
