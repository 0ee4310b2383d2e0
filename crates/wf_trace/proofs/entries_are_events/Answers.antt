use Rattle.wf_trace.proofs.Entries.{entries_are_events}
use Rattle.wf_trace.proofs.entries_are_events.Goals as goal

pub returns : goal.returns
returns g c = entries_are_events _
