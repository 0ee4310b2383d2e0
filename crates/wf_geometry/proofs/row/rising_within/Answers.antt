use Rattle.std.proofs.Common.{◌≡◌, ◌∙◌, ℕ, ◌<◌, pos, nat_lt, FitsSigned, w64, to_z-of_z, rules, arith}
use Rattle.std.proofs.lemmas.Int.{ints}
use Rattle.std.specs.Int.{w128}
use Rattle.wf_geometry.specs.Exact.{opposite, product, difference, is_less}
use Rattle.wf_geometry.specs.Limit.{pixel_side}
use Rattle.wf_geometry.proofs.StripLemmas.{counted_row}
use Rattle.wf_geometry.proofs.row.rising_within.Goals as goal

pub returns : goal.returns
returns c =
    let levels = c.args.levels in
    let acrosses : FitsSigned w64 levels.across = search rules in
    let margins : FitsSigned w128 levels.margin = search rules in
    let starts : FitsSigned w128 c.row_level-start.result = search rules in
    let lowers : FitsSigned w128 c.opposite.result = search rules in
    let lows : FitsSigned w128 c.gap.result = search rules in
    let highs : FitsSigned w128 c.gap-2.result = search rules in
    let steps : FitsSigned w128 c.from-step.result = search rules in
    let rises : pos c.step.result ≡ product (pos pixel_side) levels.across = simp to_z-of_z at c.step.ensures.value in
    let widened : c.from-step.result ≡ pos c.step.result = omega (arith, ints) in
    let lower : c.opposite.result ≡ opposite levels.margin = simp to_z-of_z at c.opposite.ensures.value in
    let low : c.gap.result ≡ difference c.opposite.result c.row_level-start.result = simp to_z-of_z at c.gap.ensures in
    let high : c.gap-2.result ≡ difference levels.margin c.row_level-start.result = simp to_z-of_z at c.gap-2.ensures in
    let from : (u : ℕ) → u < c.args.most → is_less (product c.from-step.result (pos u)) c.gap.result ≡ nat_lt u c.steps_below.result = simp to_z-of_z at c.steps_below.ensures.below in
    let to : (u : ℕ) → u < c.args.most → is_less (product c.from-step.result (pos u)) c.gap-2.result ≡ nat_lt u c.steps_below-2.result = simp to_z-of_z at c.steps_below-2.ensures.below in
    counted_row levels c.from-step.result c.row_level-start.result c.gap.result c.gap-2.result c.args.row c.args.most _ c.steps_below-2.ensures.within
    (widened ∙ rises) c.row_level-start.ensures.value (rw lower at low) high from to
