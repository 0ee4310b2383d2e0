use Rattle.std.proofs.Common.{List, subst}
use Rattle.wf_paint.specs.Edges.{AreAlong}
use Rattle.wf_geometry.specs.declared.operation.Segment.{Segment}
use Rattle.wf_paint.proofs.EdgesLemmas.{along_same, along_sorted, along_twice}
use Rattle.wf_paint.proofs.edges.distinct_of_many.Goals as goal

pub returns-then-all-lt-MANY : goal.returns-then-all-lt-MANY
returns-then-all-lt-MANY c = along_same c.args.all.now

pub returns : goal.returns
returns c =
    let all = c.args.all.now in
    let sorted = c.in_ok-sort_segments.field-0.items in
    let distinct = c.in_ok-distinct.distinct.items in
    along_twice all sorted distinct (along_sorted all sorted c.in_ok-sort_segments.ensures)
    (subst (λ (xs : List Segment). AreAlong xs distinct) c.deref.ensures.value c.in_ok-distinct.ensures)
