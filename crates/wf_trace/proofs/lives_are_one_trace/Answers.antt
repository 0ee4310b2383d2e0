use Rattle.wf_trace.proofs.Merge.{lives_are_one_trace}
use Rattle.wf_trace.proofs.lives_are_one_trace.Goals as goal

pub returns : goal.returns
returns g c = lives_are_one_trace _
