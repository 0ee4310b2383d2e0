-- The nodes so far.
use Rattle.wf_delivery.proofs.UpTo.{IsUpTo}
use Rattle.wf_farm.proofs.targets.every_node.Given as goal

abbrev pub invariant-loop-node : goal.invariant-loop-node
invariant-loop-node l = IsUpTo l.node l.nodes.items
