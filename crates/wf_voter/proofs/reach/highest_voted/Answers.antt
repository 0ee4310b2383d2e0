use Rattle.std.proofs.Common.{arith}
use Rattle.wf_voter.proofs.Reached.{one_more_voted}
use Rattle.wf_node.specs.Node.{stored_of}
use Rattle.wf_voter.proofs.reach.highest_voted.Goals as goal

pub loop-number-preserved : goal.loop-number-preserved
loop-number-preserved g c =
    let below = c.loop-number.invariant.1 in
    let within = c.with_voted-highest.ensures.within (omega (arith, below)) in (
      one_more_voted (stored_of c.args.node.now) c.loop-number.number _ _ c.loop-number.invariant.0 within.0 c.with_voted-highest.ensures.voted,
      within.1,
      c.with_voted-highest.ensures.is_voted c.loop-number.invariant.2,
    )
