use Rattle.wf_trace.proofs.Entries.{parts_are_one}
use Rattle.wf_trace.proofs.parts_are_one.Goals as goal

pub returns : goal.returns
returns g c = parts_are_one _
