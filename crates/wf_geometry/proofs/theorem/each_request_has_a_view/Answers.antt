use Rattle.wf_geometry.proofs.FittingLemmas.{has_view}
use Rattle.wf_geometry.proofs.theorem.each_request_has_a_view.Goals as goal

pub returns : goal.returns
returns c = has_view
