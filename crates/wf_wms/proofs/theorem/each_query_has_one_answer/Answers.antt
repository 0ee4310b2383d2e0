use Rattle.wf_wms.proofs.ServiceTheorem.{one_answer}
use Rattle.wf_wms.proofs.theorem.each_query_has_one_answer.Goals as goal

pub returns : goal.returns
returns c = one_answer c.there_is_one_image.ensures.one_image
