use Rattle.wf_voter.specs.Continuation.{Continues}
use Rattle.wf_peering.proofs.peer_calls.ask_all.Given as goal

abbrev pub invariant-loop-index : goal.invariant-loop-index
invariant-loop-index g l = Continues g.T.Tape l.fn.voter l.voter
