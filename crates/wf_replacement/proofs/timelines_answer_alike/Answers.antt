use Rattle.wf_replacement.proofs.Agreement.{timeline_has_one_answer, timeline_has_one_map_answer}
use Rattle.wf_replacement.proofs.timelines_answer_alike.Goals as goal

pub returns-clause-sequence : goal.returns-clause-sequence
returns-clause-sequence g c = timeline_has_one_answer g.T.Tape c.timelines_agree.ensures.history c.each_query_has_one_answer.ensures

pub returns-clause-map : goal.returns-clause-map
returns-clause-map g c = timeline_has_one_map_answer g.T.Tape c.timelines_agree.ensures.history c.each_query_has_one_answer.ensures c.asked_maps_are_answered_alike.ensures
