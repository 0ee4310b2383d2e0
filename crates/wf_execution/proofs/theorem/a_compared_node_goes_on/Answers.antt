use Rattle.wf_execution.proofs.CrashImages.{comparison_leaves}
use Rattle.wf_execution.proofs.theorem.a_compared_node_goes_on.Goals as goal

pub returns : goal.returns
returns g c = comparison_leaves g.T.Tape
