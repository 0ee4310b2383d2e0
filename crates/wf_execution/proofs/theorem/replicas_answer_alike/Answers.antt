use Rattle.wf_execution.proofs.Replicas.{served_answer, served_map_answer}
use Rattle.wf_execution.proofs.theorem.replicas_answer_alike.Goals as goal

pub returns-clause-proposal_state : goal.returns-clause-proposal_state
returns-clause-proposal_state g c = served_answer g.T.Tape c.replicas_agree.ensures.history c.each_query_has_one_answer.ensures

pub returns-clause-map : goal.returns-clause-map
returns-clause-map g c = served_map_answer g.T.Tape c.replicas_agree.ensures.history c.each_query_has_one_answer.ensures c.asked_maps_are_answered_alike.ensures
