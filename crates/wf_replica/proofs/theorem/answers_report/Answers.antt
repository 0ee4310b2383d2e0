use Rattle.wf_replica.proofs.Reported.{answers_report}
use Rattle.wf_replica.proofs.theorem.answers_report.Goals as goal

pub returns : goal.returns
returns c = answers_report
