use Rattle.wf_trace.proofs.Moves.{courses_are_one}
use Rattle.wf_trace.proofs.courses_are_one.Goals as goal

pub returns : goal.returns
returns g c = courses_are_one _
