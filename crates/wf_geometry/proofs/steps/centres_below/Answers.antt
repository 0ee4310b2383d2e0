use Rattle.std.proofs.Common.{◌≡◌, ◌-ℤ◌, ℤ, pos, to_z, of_z, sym, ap, ◌∙◌, arith}
use Rattle.std.specs.Int.{w128}
use Rattle.std.proofs.lemmas.Int.{ints}
use Rattle.wf_geometry.specs.Exact.{product, is_less}
use Rattle.wf_geometry.specs.Limit.{half_side, pixel_side}
use Rattle.wf_geometry.proofs.StepsLemmas.{centre_less}
use Rattle.wf_geometry.proofs.steps.centres_below.Goals as goal

pub returns-clause-below : goal.returns-clause-below
returns-clause-below c = λ u within.
    let same : (to_z w128 (of_z w128 (to_z w128 (of_z w128 c.from.result) -ℤ pos half_side))) ≡ c.args.position -ℤ pos half_side = omega (arith, ints) in
    centre_less (pos u) c.args.position ∙ ap (λ (z : ℤ). is_less (product (pos pixel_side) (pos u)) z) (sym same) ∙ c.steps_below.ensures.below u within
