use Rattle.std.proofs.Common.{ap, ◌∙◌, arith}
use Rattle.std.specs.Int.{int_min, int_max}
use Rattle.wf_geometry.specs.Position.{PositionValue}
use Rattle.wf_label.proofs.AnchorLemmas.{bounds_more}
use Rattle.wf_label.proofs.feature_anchor.bounds_of.Goals as goal

pub loop-point-preserved : goal.loop-point-preserved
loop-point-preserved c =
    let shown = c.position-in-loop-point.ensures in
    let step = c.widen-bounds.ensures in
    record {
      so_far = bounds_more c.args.view.now c.args.first.now c.args.rest.now c.loop-point.point-index c.point-item.result c.point-item.result c.loop-point.bounds c.widen-bounds.result
          (omega arith) c.point-item.is c.loop-point.invariant.so_far
          (record {
            left = step.left ∙ ap (λ (p : PositionValue). int_min c.loop-point.bounds.left p.x) shown;
            right = step.right ∙ ap (λ (p : PositionValue). int_max c.loop-point.bounds.right p.x) shown;
            bottom = step.bottom ∙ ap (λ (p : PositionValue). int_min c.loop-point.bounds.bottom p.y) shown;
            top = step.top ∙ ap (λ (p : PositionValue). int_max c.loop-point.bounds.top p.y) shown;
          });
      within = step.within;
    }
