use Rattle.wf_execution.proofs.Replicas.{one_served, served_agree}
use Rattle.wf_execution.proofs.theorem.replicas_agree.Goals as goal

pub returns-clause-history : goal.returns-clause-history
returns-clause-history g c = one_served g.T.Tape c.processes_agree.ensures.history

pub returns-clause-definition : goal.returns-clause-definition
returns-clause-definition g c = served_agree g.T.Tape (one_served g.T.Tape c.processes_agree.ensures.history)
