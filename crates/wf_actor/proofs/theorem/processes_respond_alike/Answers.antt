use Rattle.wf_actor.proofs.Responses.{processes_respond}
use Rattle.wf_actor.proofs.theorem.processes_respond_alike.Goals as goal

pub returns : goal.returns
returns g c = processes_respond g.T.Tape c.processes_agree.ensures.history c.equal_requests_have_equal_responses.ensures
