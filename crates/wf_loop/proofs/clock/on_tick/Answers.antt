use Rattle.wf_loop.proofs.clock.on_tick.Goals as goal
use Rattle.wf_voter.proofs.Continuation.{twice_in}

pub returns : goal.returns
returns g c = record { on = twice_in g.T.Tape _ _ _ _ _ _ c.link.ensures.on c.respond_on.ensures.on }
