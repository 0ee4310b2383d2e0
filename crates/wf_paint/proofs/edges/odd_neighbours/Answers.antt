use Rattle.std.proofs.Common.{[], List, sym, subst, arith}
use Rattle.wf_paint.specs.Edges.{AreAround}
use Rattle.wf_geometry.specs.declared.operation.Segment.{Segment}
use Rattle.wf_paint.proofs.EdgesLemmas.{around_none, around_step, around_all}
use Rattle.wf_paint.proofs.edges.odd_neighbours.Goals as goal

pub loop-segment-init : goal.loop-segment-init
loop-segment-init c = subst (λ (xs : List Segment). AreAround [] xs) (sym c.new-odd.ensures.items) around_none

pub loop-segment-preserved : goal.loop-segment-preserved
loop-segment-preserved c =
    around_step c.args.segments.now c.loop-segment.segment-index c.segment-item.result c.segment-item.result c.loop-segment.odd.items c.push_or_cancel.new.segments.items
    c.loop-segment-test.true c.segment-item.is c.loop-segment.invariant c.in_ok-push_or_cancel.ensures

pub returns : goal.returns
returns c = around_all c.args.segments.now c.loop-segment.segment-index c.loop-segment.odd.items (omega arith) c.loop-segment.invariant
