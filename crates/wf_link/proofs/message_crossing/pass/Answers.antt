-- After the write the reads alone may fail.
use Rattle.std.proofs.Common.{inl, inr}
use Rattle.wf_link.proofs.Causes.{fares_weaker}
use Rattle.wf_link.proofs.message_crossing.pass.Goals as goal

pub returns-in-Ok-clause-cause : goal.returns-in-Ok-clause-cause
returns-in-Ok-clause-cause g c = fares_weaker c.receive.result (λ same. (c.in-Ok.ensures.calm, same)) (λ why. inr why) c.receive.ensures.cause

pub returns-in-Err-clause-cause : goal.returns-in-Err-clause-cause
returns-in-Err-clause-cause g c = inl c.in-Err.ensures.cause
