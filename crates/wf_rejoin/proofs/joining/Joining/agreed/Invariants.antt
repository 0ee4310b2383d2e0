-- So many of the nodes before this one have agreed.
use Rattle.std.proofs.Common.{◌≡◌, ◌≤◌}
use Rattle.wf_ballot.specs.Majority.{count_nodes}
use Rattle.wf_rejoin.specs.Joining.{agreed_nodes}
use Rattle.wf_rejoin.proofs.joining.Joining.agreed.Given as goal

abbrev pub invariant-loop-index : goal.invariant-loop-index
invariant-loop-index l = (l.count ≡ count_nodes l.index (agreed_nodes l.self)) × (l.count ≤ l.index)
