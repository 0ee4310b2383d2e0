use Rattle.wf_trace.proofs.Course.{course_is_run}
use Rattle.wf_trace.proofs.a_course_is_a_run.Goals as goal

pub returns : goal.returns
returns g c = course_is_run _
