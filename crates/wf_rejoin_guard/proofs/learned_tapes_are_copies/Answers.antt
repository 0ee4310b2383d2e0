use Rattle.wf_rejoin_guard.proofs.Learned.{learned_copies}
use Rattle.wf_rejoin_guard.proofs.learned_tapes_are_copies.Goals as goal

pub returns : goal.returns
returns g c = learned_copies g.T.Tape c.records_are_read_one_way.ensures.one
