use Rattle.wf_execution.proofs.Farms.{farm_has_one_history, farm_has_one_definition}
use Rattle.wf_execution.proofs.theorem.processes_agree.Goals as goal

pub returns-clause-history : goal.returns-clause-history
returns-clause-history g c =
    farm_has_one_history c.records_are_read_one_way.ensures.one c.records_are_read_one_way.ensures.none c.lives_are_one_trace.ensures c.processes_agree.ensures.history g.T.Tape

pub returns-clause-definition : goal.returns-clause-definition
returns-clause-definition g c = farm_has_one_definition g.T.Tape (returns-clause-history g c)
