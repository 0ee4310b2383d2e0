-- The nodes are the ones at the start.
use Rattle.std.proofs.Common.{arith, subst, sym}
use Rattle.wf_farm.proofs.Common.{start}
use Rattle.wf_farm.specs.Cluster.{Refines}
use Rattle.wf_farm.proofs.Worlds.{start_shown}
use Rattle.wf_farm.proofs.farm_start.Cluster+MemoryTape.new.Goals as goal

pub returns-clause-refines : goal.returns-clause-refines
returns-clause-refines c =
    subst (λ sent. Refines c.loop-number.hosts.items sent (start c.args.n)) (sym c.new-2.ensures.items)
    (start_shown c.args.n c.loop-number.hosts.items c.loop-number.invariant.0 (omega (arith, c.loop-number.invariant.1, c.loop-number.auto.number-end, c.loop-number-test.false)))
