use Rattle.wf_delivery.proofs.Alike.{alike_answers, alike_map_answers}
use Rattle.wf_delivery.proofs.reachability.reachable_nodes_answer_alike.Goals as goal

pub returns-clause-proposal_state : goal.returns-clause-proposal_state
returns-clause-proposal_state g c = λ reached. alike_answers c.each_query_has_one_answer.ensures c.args.nodes.now (c.reachable_nodes_agree.ensures reached)

pub returns-clause-map : goal.returns-clause-map
returns-clause-map g c = λ reached. alike_map_answers c.each_query_has_one_answer.ensures c.args.nodes.now (c.reachable_nodes_agree.ensures reached)
