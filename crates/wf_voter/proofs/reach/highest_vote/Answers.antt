use Rattle.wf_voter.proofs.Reached.{one_more}
use Rattle.wf_node.specs.Node.{stored_of}
use Rattle.wf_voter.proofs.reach.highest_vote.Goals as goal

pub loop-number-preserved : goal.loop-number-preserved
loop-number-preserved g c = (
  one_more (stored_of c.args.node.now) c.loop-number.number _ _ c.loop-number.invariant.0 c.with_vote_of-highest.ensures.kept c.with_vote_of-highest.ensures.no_lower,
  c.with_vote_of-highest.ensures.is_vote c.loop-number.invariant.1,
)
