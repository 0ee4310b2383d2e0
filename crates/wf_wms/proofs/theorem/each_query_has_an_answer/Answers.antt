use Rattle.wf_wms.proofs.AnswerTheorem.{an_answer}
use Rattle.wf_wms.proofs.theorem.each_query_has_an_answer.Goals as goal

pub returns : goal.returns
returns c = an_answer c.there_is_one_image.ensures.an_image
