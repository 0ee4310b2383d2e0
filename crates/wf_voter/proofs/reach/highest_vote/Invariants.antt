use Rattle.wf_voter.specs.Reach.{IsHighestUpTo, IsVoteOfNode}
use Rattle.wf_node.specs.Node.{stored_of}
use Rattle.wf_voter.proofs.reach.highest_vote.Given as goal

abbrev pub invariant-loop-number : goal.invariant-loop-number
invariant-loop-number g l = IsHighestUpTo (stored_of l.fn.node) l.number l.highest × IsVoteOfNode (stored_of l.fn.node) l.highest
