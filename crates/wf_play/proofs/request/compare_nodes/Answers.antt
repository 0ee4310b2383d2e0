-- The first node returns no answer.
use Rattle.std.proofs.Common.{inl}
use Rattle.wf_play.proofs.request.compare_nodes.Goals as goal

pub returns-in-Err-clause-fault : goal.returns-in-Err-clause-fault
returns-in-Err-clause-fault c = inl c.in-Err.ensures.fault
