use Rattle.wf_trace.proofs.Moves.{entries_are_moves}
use Rattle.wf_trace.proofs.entries_are_moves.Goals as goal

pub returns : goal.returns
returns g c = entries_are_moves _
