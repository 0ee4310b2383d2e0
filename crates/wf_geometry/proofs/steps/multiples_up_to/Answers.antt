use Rattle.std.proofs.Common.{◌≡◌, ◌+ℤ◌, ℤ, pos, to_z, of_z, ap, sym, ◌∙◌, arith}
use Rattle.std.specs.Int.{w64}
use Rattle.std.proofs.lemmas.Int.{ints}
use Rattle.wf_geometry.specs.Exact.{plus, is_less, number_of}
use Rattle.wf_geometry.proofs.StepsLemmas.{multiples_to}
use Rattle.wf_geometry.proofs.steps.multiples_up_to.Goals as goal

pub returns-clause-below : goal.returns-clause-below
unfolding number_of plus
returns-clause-below c = λ divisor u rest within.
    let whole : ℤ = c.args.number.whole in
    let same : to_z w64 (of_z w64 (to_z w64 (of_z w64 whole) +ℤ pos 1)) ≡ whole +ℤ pos 1 = omega (arith, ints) in
    multiples_to divisor c.args.number.rest u whole rest ∙ ap (is_less (pos u)) (sym same) ∙ c.integers_below.ensures.below u within
