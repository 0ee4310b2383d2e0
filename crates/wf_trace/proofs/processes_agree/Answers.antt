use Rattle.wf_trace.proofs.Agreement.{one_definition_each, one_history_of_all}
use Rattle.wf_trace.proofs.processes_agree.Goals as goal

pub returns-clause-definition : goal.returns-clause-definition
returns-clause-definition g c = one_definition_each _ c.agreement.ensures

pub returns-clause-history : goal.returns-clause-history
returns-clause-history g c = one_history_of_all _ c.agreement.ensures
