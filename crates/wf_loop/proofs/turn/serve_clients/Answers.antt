use Rattle.wf_loop.proofs.turn.serve_clients.Goals as goal

pub returns-then-not-serve_next-clause-earlier : goal.returns-then-not-serve_next-clause-earlier
returns-then-not-serve_next-clause-earlier g c = λ are. c.serve_next.ensures.earlier (c.loop.invariant.3 are)

pub returns-clause-earlier : goal.returns-clause-earlier
returns-clause-earlier g c = λ are. c.loop.invariant.3 are
