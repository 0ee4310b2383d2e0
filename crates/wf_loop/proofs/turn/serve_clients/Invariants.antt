use Rattle.std.proofs.Common.{◌≡◌, true}
use Rattle.wf_voter.specs.Answer.{StayEarlier}
use Rattle.wf_voter.specs.Continuation.{Continues}
use Rattle.wf_loop.proofs.turn.serve_clients.Given as goal

abbrev pub invariant-loop : goal.invariant-loop
invariant-loop g l =
    Continues g.T.Tape l.fn.voter l.voter × (l.fn.voter.is_outvoted ≡ true → l.clients.before.items ≡ l.fn.clients.before.items) × (l.fn.voter.membership.joins ≡ true → l.clients.before.items ≡ l.fn.clients.before.items)
    × StayEarlier g.T.Tape l.fn.clients.before.items l.clients.before.items l.fn.voter.process l.voter.process
