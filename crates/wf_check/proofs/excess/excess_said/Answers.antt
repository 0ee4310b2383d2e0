use Rattle.std.proofs.Common.{◌∙◌, append_assoc}
use Rattle.wf_check.proofs.excess.excess_said.Goals as goal

pub returns-in-Ok : goal.returns-in-Ok
returns-in-Ok c = c.in-Ok.ensures.ok ∙ (simp (append_assoc, c.saturating_sub-over.ensures))
