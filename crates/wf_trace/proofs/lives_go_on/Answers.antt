use Rattle.wf_trace.proofs.Merge.{lives_go_on}
use Rattle.wf_trace.proofs.lives_go_on.Goals as goal

pub returns : goal.returns
returns g c = lives_go_on _
