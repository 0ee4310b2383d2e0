-- Every node's number is at its own index.
use Rattle.std.proofs.Common.{subst, arith}
use Rattle.wf_delivery.proofs.UpTo.{IsUpTo, up_to_targets}
use Rattle.wf_farm.proofs.targets.every_node.Goals as goal

pub returns-clause-targets : goal.returns-clause-targets
returns-clause-targets c =
    up_to_targets c.args.n c.loop-node.nodes.items (subst (λ k. IsUpTo k c.loop-node.nodes.items) (omega (arith, c.loop-node-test.false, c.loop-node.auto.node-end)) c.loop-node.invariant)
