use Rattle.wf_voter.proofs.Continuation.{then_on}
use Rattle.wf_loop.proofs.clock.turn_by_clock.Goals as goal

pub returns-clause-on : goal.returns-clause-on
returns-clause-on g c =
    then_on g.T.Tape _ _ _ _ _ (then_on g.T.Tape _ _ _ _ _ c.tick.ensures.on c.retry_if_preempted.ensures) c.call_all.ensures
