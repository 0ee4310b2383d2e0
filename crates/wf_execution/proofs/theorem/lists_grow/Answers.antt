use Rattle.wf_execution.proofs.Farms.{lists_grow}
use Rattle.wf_execution.proofs.theorem.lists_grow.Goals as goal

pub returns : goal.returns
returns g c = lists_grow c.records_are_read_one_way.ensures.one c.records_are_read_one_way.ensures.none g.T.Tape
