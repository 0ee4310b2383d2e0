use Rattle.wf_picture.proofs.ViewLemmas.{an_image, one_image, one_view}
use Rattle.wf_picture.proofs.theorem.there_is_one_image.Goals as goal

pub returns-clause-one_view : goal.returns-clause-one_view
returns-clause-one_view c = one_view

pub returns-clause-one_image : goal.returns-clause-one_image
returns-clause-one_image c = one_image

pub returns-clause-an_image : goal.returns-clause-an_image
returns-clause-an_image c = an_image c.each_request_has_a_view.ensures
