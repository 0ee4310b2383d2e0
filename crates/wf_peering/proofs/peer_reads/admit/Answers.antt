use Rattle.wf_voter.proofs.Continuation.{twice_in}
use Rattle.wf_peering.proofs.peer_reads.admit.Goals as goal

pub returns : goal.returns
returns g c = record { on = twice_in g.T.Tape _ _ _ _ _ _ c.save.ensures.on c.obey.ensures.on; folder = c.admit-admitted.ensures.folder }
