use Rattle.wf_trace.proofs.Entries.{trace_is_run}
use Rattle.wf_trace.proofs.a_trace_is_a_run.Goals as goal

pub returns : goal.returns
returns g c = trace_is_run _
