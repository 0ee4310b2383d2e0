use Rattle.wf_edge.proofs.ServiceTheorem.{one_response}
use Rattle.wf_edge.proofs.theorem.equal_requests_have_equal_responses.Goals as goal

pub returns : goal.returns
returns g c = one_response _ g.T.Tape c.each_query_has_one_page.ensures
