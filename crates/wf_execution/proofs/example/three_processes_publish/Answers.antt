use Rattle.wf_execution.proofs.Started.{three_processes}
use Rattle.wf_execution.proofs.example.three_processes_publish.Goals as goal

pub returns : goal.returns
returns g c =
    three_processes c.records_are_read_one_way.ensures.one c.records_are_read_one_way.ensures.none g.T.Tape c.a_step_is_answered.ensures c.new_nodes_publish.ensures
