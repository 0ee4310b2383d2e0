use Rattle.std.proofs.Common.{◌≡◌, ℕ, ◌<◌, ℤ, nat_lt, pos, FitsSigned, to_z, of_z, w64, to_z-of_z, get_or, sym, ap, ◌∙◌, rules, arith}
use Rattle.wf_geometry.specs.Coverage.{crosses}
use Rattle.wf_geometry.specs.Position.{PositionValue, middle, centre}
use Rattle.wf_geometry.specs.declared.operation.Segment.{Segment}
use Rattle.wf_geometry.proofs.ReachLemmas.{reaches_more, reaches_skip}
use Rattle.wf_geometry.proofs.reach.find_reaches.Goals as goal
use Rattle.wf_geometry.proofs.reach.find_reaches.Goals.{then-reach-gt0+in_ok-push, else-reach-gt0}

pub loop-edge-preserved : goal.loop-edge-preserved
loop-edge-preserved c =
    let edge = c.edge-item.result in
    let fits : FitsSigned w64 c.y-level.result = search rules in
    let level : to_z w64 (of_z w64 c.y-level.result) ≡ middle (pos c.args.row) =
    to_z-of_z fits ∙ c.y-level.ensures.value ∙ ap (λ (p : PositionValue). p.y) c.centre.ensures in
    let crossed : (u : ℕ) → u < c.args.width → crosses (centre (pos u) (pos c.args.row)) (get_or c.args.edges.now c.loop-edge.edge-index edge) ≡ nat_lt u c.reach-reach.result =
    λ u within.
    ap (λ (e : Segment). crosses (centre (pos u) (pos c.args.row)) e) (sym c.edge-item.is)
    ∙ ap (λ (y : ℤ). crosses (record { x = middle (pos u); y = y }) edge) (sym level)
    ∙ c.reach-reach.ensures.crossed u within in
    elim c.if-reach-gt0.branch [
      | then-reach-gt0+in_ok-push w ↦
          rw (w.reaches-is, w.in_ok-push.ensures.items)
          (reaches_more c.args.row c.args.width c.args.edges.now c.loop-edge.edge-index c.reach-reach.result edge _ (omega arith) c.reach-reach.ensures.within crossed c.loop-edge.invariant)
      | else-reach-gt0 w ↦ rw w.reaches-is (reaches_skip c.args.row c.args.width c.args.edges.now c.loop-edge.edge-index c.reach-reach.result edge _ (omega arith) (omega arith) crossed c.loop-edge.invariant)
    ]
