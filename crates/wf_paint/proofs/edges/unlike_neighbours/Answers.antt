use Rattle.std.proofs.Common.{[], List, sym, subst, arith}
use Rattle.wf_paint.specs.Edges.{AreAlong}
use Rattle.wf_geometry.specs.declared.operation.Segment.{Segment}
use Rattle.wf_paint.proofs.EdgesLemmas.{along_none, along_step, along_all}
use Rattle.wf_paint.proofs.edges.unlike_neighbours.Goals as goal

pub loop-segment-init : goal.loop-segment-init
loop-segment-init c = subst (λ (xs : List Segment). AreAlong [] xs) (sym c.new-distinct.ensures.items) along_none

pub loop-segment-preserved : goal.loop-segment-preserved
loop-segment-preserved c =
    along_step c.args.segments.now c.loop-segment.segment-index c.segment-item.result c.segment-item.result c.loop-segment.distinct.items c.push_unlike.new.segments.items
    c.loop-segment-test.true c.segment-item.is c.loop-segment.invariant c.in_ok-push_unlike.ensures

pub returns : goal.returns
returns c = along_all c.args.segments.now c.loop-segment.segment-index c.loop-segment.distinct.items (omega arith) c.loop-segment.invariant
