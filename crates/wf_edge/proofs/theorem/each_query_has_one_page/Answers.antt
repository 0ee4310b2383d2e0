use Rattle.wf_edge.proofs.ServiceTheorem.{one_page}
use Rattle.wf_edge.proofs.theorem.each_query_has_one_page.Goals as goal

pub returns : goal.returns
returns c = one_page c.each_query_has_one_answer.ensures c.asked_maps_are_answered_alike.ensures c.texts_are_rejected_alike.ensures
