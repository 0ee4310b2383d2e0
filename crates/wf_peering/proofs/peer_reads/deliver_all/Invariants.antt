use Rattle.wf_voter.specs.Continuation.{ContinuesIn}
use Rattle.wf_peering.proofs.peer_reads.deliver_all.Given as goal

abbrev pub invariant-loop : goal.invariant-loop
invariant-loop g l = ContinuesIn g.T.Tape (g.F.NodeFolder.stands l.fn.folder) l.fn.voter (g.F.NodeFolder.stands l.folder) l.voter
