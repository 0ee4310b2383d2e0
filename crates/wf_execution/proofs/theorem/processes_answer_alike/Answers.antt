use Rattle.wf_execution.proofs.OneAnswer.{farm_has_one_answer, farm_has_one_map_answer}
use Rattle.wf_execution.proofs.theorem.processes_answer_alike.Goals as goal

pub returns-clause-proposal_state : goal.returns-clause-proposal_state
returns-clause-proposal_state g c = farm_has_one_answer c.each_query_has_one_answer.ensures g.T.Tape c.processes_agree.ensures.history

pub returns-clause-map : goal.returns-clause-map
returns-clause-map g c = farm_has_one_map_answer c.each_query_has_one_answer.ensures c.asked_maps_are_answered_alike.ensures g.T.Tape c.processes_agree.ensures.history
