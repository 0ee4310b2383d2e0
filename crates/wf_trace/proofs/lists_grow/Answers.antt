use Rattle.wf_trace.proofs.Growth.{lists_grow}
use Rattle.wf_trace.proofs.lists_grow.Goals as goal

pub returns : goal.returns
returns g c = lists_grow _
