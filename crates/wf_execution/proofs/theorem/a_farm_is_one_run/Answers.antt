use Rattle.wf_execution.proofs.Farms.{farm_is_one_run}
use Rattle.wf_execution.proofs.theorem.a_farm_is_one_run.Goals as goal

pub returns : goal.returns
returns g c =
    farm_is_one_run c.records_are_read_one_way.ensures.one c.records_are_read_one_way.ensures.none c.lives_are_one_trace.ensures c.a_trace_is_a_run.ensures g.T.Tape
