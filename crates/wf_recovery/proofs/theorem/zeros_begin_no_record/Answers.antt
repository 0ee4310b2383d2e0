use Rattle.wf_recovery.proofs.Fronts.{no_record}
use Rattle.wf_recovery.proofs.theorem.zeros_begin_no_record.Goals as goal

pub returns : goal.returns
returns c = no_record
