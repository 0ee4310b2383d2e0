use Rattle.std.proofs.Common.{◌∙◌, append_assoc}
use Rattle.wf_check.proofs.finding_report.reported.Goals as goal

pub returns-in-Ok : goal.returns-in-Ok
returns-in-Ok c = c.in-Ok.ensures.ok ∙ (simp append_assoc)
