-- The second node returns no answer.
use Rattle.std.proofs.Common.{inr}
use Rattle.wf_play.proofs.request.compare_with.Goals as goal

pub returns-in-Err-clause-fault : goal.returns-in-Err-clause-fault
returns-in-Err-clause-fault c = inr c.in-Err.ensures.fault
