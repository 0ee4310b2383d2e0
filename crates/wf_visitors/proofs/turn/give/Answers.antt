use Rattle.wf_visitors.proofs.Answered.{giving_before}
use Rattle.wf_visitors.proofs.turn.give.Goals as goal

pub returns-in-Done : goal.returns-in-Done
returns-in-Done g c = giving_before c.in-Done.left _ _ _ _ _ _ _ _ _ c.loop.invariant c.in-Done.ensures
