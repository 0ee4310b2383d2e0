use Rattle.std.proofs.Common.{List, subst}
use Rattle.wf_paint.specs.Edges.{AreAround}
use Rattle.wf_geometry.specs.declared.operation.Segment.{Segment}
use Rattle.wf_paint.proofs.EdgesLemmas.{around_same, around_sorted, around_twice}
use Rattle.wf_paint.proofs.edges.odd_of_many.Goals as goal

pub returns-then-all-lt-MANY : goal.returns-then-all-lt-MANY
returns-then-all-lt-MANY c = around_same c.args.all.now

pub returns : goal.returns
returns c =
    let all = c.args.all.now in
    let sorted = c.in_ok-sort_segments.field-0.items in
    let odd = c.in_ok-odd.odd.items in
    around_twice all sorted odd (around_sorted all sorted c.in_ok-sort_segments.ensures)
    (subst (λ (xs : List Segment). AreAround xs odd) c.deref.ensures.value c.in_ok-odd.ensures)
