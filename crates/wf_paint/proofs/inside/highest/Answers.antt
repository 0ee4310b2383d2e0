use Rattle.std.proofs.Common.{◌≤ℤ◌, to_z, of_z, w64, sym, arith}
use Rattle.std.proofs.lemmas.Int.{ints}
use Rattle.std.proofs.lemmas.List.{take_all}
use Rattle.std.proofs.lemmas.List.Elements.{All-same}
use Rattle.wf_geometry.specs.declared.operation.Segment.{Segment}
use Rattle.wf_paint.proofs.InsideLemmas.{ends_below_more}
use Rattle.wf_paint.proofs.inside.highest.Goals as goal

pub loop-edge-preserved : goal.loop-edge-preserved
loop-edge-preserved c =
    ends_below_more c.args.edges.now c.loop-edge.edge-index c.edge-item.result (to_z w64 c.loop-edge.highest-bits) (to_z w64 (of_z w64 c.max-highest.result))
    (omega arith) c.edge-item.is (omega (arith, ints)) (omega (arith, ints)) (omega (arith, ints)) c.loop-edge.invariant

pub returns : goal.returns
returns c =
    All-same (λ (e : Segment). (e.from.y ≤ℤ to_z w64 c.loop-edge.highest-bits) × (e.to.y ≤ℤ to_z w64 c.loop-edge.highest-bits)) c.args.edges.now _
    (sym (take_all c.loop-edge.edge-index c.args.edges.now (omega arith))) c.loop-edge.invariant
