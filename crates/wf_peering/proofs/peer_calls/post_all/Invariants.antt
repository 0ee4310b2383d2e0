use Rattle.wf_voter.specs.Continuation.{Continues}
use Rattle.wf_peering.proofs.peer_calls.post_all.Given as goal

abbrev pub invariant-loop : goal.invariant-loop
invariant-loop g l = Continues g.T.Tape l.fn.voter l.voter
