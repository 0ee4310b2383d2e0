-- The longer of two is kept.
use Rattle.std.proofs.Common.{refl}
use Rattle.wf_serve.proofs.Checked.{next_longest}
use Rattle.wf_serve.proofs.Taken.{next_kept, next_unlike}
use Rattle.wf_serve.proofs.check.with_next.Goals as goal

pub returns-in-Some-clause-next : goal.returns-in-Some-clause-next
returns-in-Some-clause-next c = next_longest c.longer.result _ _ _ _ c.in-Some.is c.in-Ok.ensures.node c.longer.ensures.longer

pub returns-in-Some-clause-kept : goal.returns-in-Some-clause-kept
returns-in-Some-clause-kept c = next_kept c.longer.result _ _ _ _ _ c.in-Some.is refl c.in-Ok.ensures.node c.longer.ensures.one

pub returns-in-Some-clause-cause : goal.returns-in-Some-clause-cause
returns-in-Some-clause-cause c = next_unlike c.longer.result _ _ _ _ _ c.in-Some.is c.in-Ok.ensures.node c.longer.ensures.cause
