-- What has come is a request, or isn't one.
use Rattle.std.proofs.Common.{List, ℕ, subst}
use Rattle.wf_edge.specs.Request.{BeginsWith, IsRequestFault}
use Rattle.wf_replica.specs.Service.{OfFault, OfRequest}
use Rattle.wf_replica.proofs.service.serve.Goals as goal

pub returns-in-Ok-clause-served : goal.returns-in-Ok-clause-served
returns-in-Ok-clause-served c =
    OfRequest c.in-Ok.request (subst (λ (input : List ℕ). BeginsWith input c.in-Ok.request) c.reader.ensures.rest c.in-Ok.ensures.ok) c.answer-outcome.ensures.answered

pub returns-in-Err-clause-served : goal.returns-in-Err-clause-served
returns-in-Err-clause-served c =
    OfFault c.in-Err.fault (subst (λ (input : List ℕ). IsRequestFault input c.in-Err.fault) c.reader.ensures.rest c.in-Err.ensures.err) c.write_error.ensures.completion
