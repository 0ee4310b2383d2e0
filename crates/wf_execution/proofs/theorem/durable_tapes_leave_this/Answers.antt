use Rattle.wf_execution.proofs.CrashImages.{leaves_between, leaves_within, leaves_failed}
use Rattle.wf_execution.proofs.theorem.durable_tapes_leave_this.Goals as goal

pub returns-clause-between : goal.returns-clause-between
returns-clause-between g c = leaves_between g.T.Tape

pub returns-clause-within : goal.returns-clause-within
returns-clause-within g c = leaves_within g.T.Tape

pub returns-clause-failed : goal.returns-clause-failed
returns-clause-failed g c = leaves_failed g.T.Tape
