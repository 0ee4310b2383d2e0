use Rattle.wf_trace.proofs.CourseAgreement.{courses_agree}
use Rattle.wf_trace.proofs.courses_agree.Goals as goal

pub returns : goal.returns
returns g c = courses_agree _ c.agreement_under_guard.ensures
