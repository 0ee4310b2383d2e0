use Rattle.wf_replacement.proofs.Example.{lost_is_replaced}
use Rattle.wf_replacement.proofs.a_lost_process_is_replaced.Goals as goal

pub returns : goal.returns
returns g c = lost_is_replaced c.records_are_read_one_way.ensures.none c.copies_are_held.ensures g.T.Tape
