use Rattle.wf_trace.proofs.Example.{three_publish_a}
use Rattle.wf_trace.proofs.three_processes_publish.Goals as goal

pub returns : goal.returns
returns c = three_publish_a
