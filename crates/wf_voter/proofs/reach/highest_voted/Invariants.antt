use Rattle.std.proofs.Common.{◌≤◌}
use Rattle.wf_voter.specs.Reach.{AreVotedUpTo, IsVotedOrNone}
use Rattle.wf_node.specs.Node.{stored_of}
use Rattle.wf_voter.proofs.reach.highest_voted.Given as goal

abbrev pub invariant-loop-number : goal.invariant-loop-number
invariant-loop-number g l = AreVotedUpTo (stored_of l.fn.node) l.number l.highest × (l.highest ≤ l.number) × IsVotedOrNone (stored_of l.fn.node) l.highest
