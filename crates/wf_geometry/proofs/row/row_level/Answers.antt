use Rattle.std.proofs.Common.{◌≡◌, ℤ, pos, FitsSigned, w64, to_z-of_z, rules, ap, ◌∙◌, arith}
use Rattle.std.proofs.lemmas.Int.{ints}
use Rattle.std.specs.Int.{w128}
use Rattle.wf_geometry.specs.Exact.{plus, product}
use Rattle.wf_geometry.specs.Level.{level, row_level}
use Rattle.wf_geometry.specs.Limit.{pixel_side}
use Rattle.wf_geometry.proofs.StripLemmas.{row_product, sum_of}
use Rattle.wf_geometry.proofs.row.row_level.Goals as goal

pub returns-clause-value : goal.returns-clause-value
unfolding row_level level plus
returns-clause-value c =
    let levels = c.args.levels in
    let ups : FitsSigned w64 levels.up = search rules in
    let reach : FitsSigned w64 c.sixteenths.result = search rules in
    let fits : FitsSigned w128 c.product.result = search rules in
    let value : c.product.result ≡ product c.sixteenths.result levels.up = simp to_z-of_z at c.product.ensures.value in
    let risen : c.product.result ≡ product (product (pos pixel_side) levels.up) (pos c.args.row) =
    value ∙ ap (λ (z : ℤ). product z levels.up) c.sixteenths.ensures.value ∙ row_product c.args.row levels.up in
    sum_of _ levels.origin c.product.result _ (omega (arith, ints)) risen
