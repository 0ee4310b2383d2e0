-- The bytes that were read are those that fold.
use Rattle.wf_serve.proofs.Causes.{not_next}
use Rattle.wf_serve.proofs.Checked.{next_checked}
use Rattle.wf_serve.proofs.check.check_next.Goals as goal

pub returns-in-Ok-clause-next : goal.returns-in-Ok-clause-next
returns-in-Ok-clause-next g c = next_checked c.with_next.result c.args.presence c.args.number _ c.args.longest _ _ c.in-Ok.ensures.read c.with_next.ensures.next

pub returns-in-Ok-clause-cause : goal.returns-in-Ok-clause-cause
returns-in-Ok-clause-cause g c = not_next c.with_next.result c.args.n c.args.number _ c.args.longest _ _ c.with_next.ensures.cause
