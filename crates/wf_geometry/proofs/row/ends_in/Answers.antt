use Rattle.std.proofs.Common.{◌≡◌, pos, FitsSigned, w64, to_z-of_z, rules, ap, ◌∙◌, ◌<◌, ◌^◌, nat_abs, inl, inr, arith}
use Rattle.std.proofs.lemmas.Int.{ints}
use Rattle.std.specs.Int.{w128}
use Rattle.wf_geometry.specs.Exact.{plus, opposite, product, difference, quotient, number_of}
use Rattle.wf_geometry.specs.Level.{row_level}
use Rattle.wf_geometry.specs.Limit.{pixel_side}
use Rattle.wf_geometry.proofs.StripLemmas.{ends_begin, far_by_step}
use Rattle.wf_geometry.proofs.row.ends_in.Goals as goal

pub returns-clause-value : goal.returns-clause-value
returns-clause-value c =
    let levels = c.args.levels in
    let ups : FitsSigned w64 levels.up = search rules in
    let acrosses : FitsSigned w64 levels.across = search rules in
    let margins : FitsSigned w128 levels.margin = search rules in
    let lowers : FitsSigned w128 c.opposite.result = search rules in
    let opposites : FitsSigned w128 c.opposite-2.result = search rules in
    let products : FitsSigned w128 c.product.result = search rules in
    let starts : FitsSigned w128 c.row_level-start.result = search rules in
    let rooms : FitsSigned w128 c.room.result = search rules in
    let twices : FitsSigned w128 c.double.result = search rules in
    let step : pos c.step-step.result ≡ product (pos pixel_side) levels.across = simp to_z-of_z at c.step-step.ensures.value in
    let product_value : c.product.result ≡ product (pos pixel_side) levels.up = simp to_z-of_z at c.product.ensures.value in
    let opposite_value : c.opposite-2.result ≡ opposite c.product.result = simp to_z-of_z at c.opposite-2.ensures.value in
    let moved : number_of c.step-step.result c.in-Some-quotient-2.change ≡ c.opposite-2.result = simp to_z-of_z at c.in-Some-quotient-2.ensures.value in
    let lower : c.opposite.result ≡ opposite levels.margin = simp to_z-of_z at c.opposite.ensures.value in
    let room : c.room.result ≡ difference (difference c.opposite.result c.row_level-start.result) (pos 1) = simp to_z-of_z at c.room.ensures.value in
    let low : number_of c.step-step.result c.in-Some.low ≡ c.room.result = simp to_z-of_z at c.in-Some.ensures.value in
    let twice : c.double.result ≡ plus levels.margin levels.margin = simp to_z-of_z at c.double.ensures.value in
    let gap : number_of c.step-step.result c.in-Some-quotient.gap ≡ c.double.result = simp to_z-of_z at c.in-Some-quotient.ensures.value in
    ends_begin levels c.row_level-start.result c.args.row c.step-step.result c.in-Some.low c.in-Some-quotient.gap c.in-Some-quotient-2.change step c.step-step.ensures.most
    c.row_level-start.ensures.value (rw lower at (low ∙ room)) c.in-Some.ensures.rest c.in-Some.ensures.within
    (gap ∙ twice) c.in-Some-quotient.ensures.rest c.in-Some-quotient.ensures.within
    (moved ∙ opposite_value ∙ ap opposite product_value) c.in-Some-quotient-2.ensures.rest c.in-Some-quotient-2.ensures.within

pub returns-then-levels-eq0-clause-none : goal.returns-then-levels-eq0-clause-none
returns-then-levels-eq0-clause-none c = inl (omega (arith, ints))

-- the lower end
pub returns-in_default-clause-none : goal.returns-in_default-clause-none
returns-in_default-clause-none c =
    let levels = c.args.levels in
    let across : FitsSigned w64 levels.across = search rules in
    let margins : FitsSigned w128 levels.margin = search rules in
    let lowers : FitsSigned w128 c.opposite.result = search rules in
    let starts : FitsSigned w128 c.row_level-start.result = search rules in
    let rooms : FitsSigned w128 c.room.result = search rules in
    let step : pos c.step-step.result ≡ product (pos pixel_side) levels.across = simp to_z-of_z at c.step-step.ensures.value in
    let lower : c.opposite.result ≡ opposite levels.margin = simp to_z-of_z at c.opposite.ensures.value in
    let room : c.room.result ≡ difference (difference c.opposite.result c.row_level-start.result) (pos 1) = simp to_z-of_z at c.room.ensures.value in
    let value : c.room.result ≡ difference (difference (opposite levels.margin) (row_level levels c.args.row)) (pos 1) = rw (lower, c.row_level-start.ensures.value) at room in
    let far : 2 ^ 50 < nat_abs (quotient c.room.result (pos c.step-step.result)) = simp to_z-of_z at c.in_default.ensures.none in
    inr (inl (far_by_step c.room.result _ _ c.step-step.result value step far))

-- the distance of the ends
pub returns-in_default-quotient-clause-none : goal.returns-in_default-quotient-clause-none
returns-in_default-quotient-clause-none c =
    let levels = c.args.levels in
    let across : FitsSigned w64 levels.across = search rules in
    let margins : FitsSigned w128 levels.margin = search rules in
    let twices : FitsSigned w128 c.double.result = search rules in
    let step : pos c.step-step.result ≡ product (pos pixel_side) levels.across = simp to_z-of_z at c.step-step.ensures.value in
    let twice : c.double.result ≡ plus levels.margin levels.margin = simp to_z-of_z at c.double.ensures.value in
    let far : 2 ^ 50 < nat_abs (quotient c.double.result (pos c.step-step.result)) = simp to_z-of_z at c.in_default-quotient.ensures.none in
    inr (inr (inl (far_by_step c.double.result _ _ c.step-step.result twice step far)))

-- their change
pub returns-in_default-quotient-2-clause-none : goal.returns-in_default-quotient-2-clause-none
returns-in_default-quotient-2-clause-none c =
    let levels = c.args.levels in
    let ups : FitsSigned w64 levels.up = search rules in
    let across : FitsSigned w64 levels.across = search rules in
    let opposites : FitsSigned w128 c.opposite-2.result = search rules in
    let products : FitsSigned w128 c.product.result = search rules in
    let step : pos c.step-step.result ≡ product (pos pixel_side) levels.across = simp to_z-of_z at c.step-step.ensures.value in
    let product_value : c.product.result ≡ product (pos pixel_side) levels.up = simp to_z-of_z at c.product.ensures.value in
    let opposite_value : c.opposite-2.result ≡ opposite c.product.result = simp to_z-of_z at c.opposite-2.ensures.value in
    let far : 2 ^ 50 < nat_abs (quotient c.opposite-2.result (pos c.step-step.result)) = simp to_z-of_z at c.in_default-quotient-2.ensures.none in
    inr (inr (inr (far_by_step c.opposite-2.result _ _ c.step-step.result (opposite_value ∙ ap opposite product_value) step far)))
