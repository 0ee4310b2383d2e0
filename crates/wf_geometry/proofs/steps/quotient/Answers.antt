use Rattle.std.proofs.Common.{◌≡◌, pos, FitsSigned, w64, to_z, of_z, to_z-of_z, rules, arith}
use Rattle.std.proofs.lemmas.Int.{ints}
use Rattle.std.specs.Int.{w128, int_rem_euclid}
use Rattle.wf_geometry.specs.Exact.{quotient, number_of}
use Rattle.wf_geometry.proofs.QuotientLemmas.{divided_again}
use Rattle.wf_geometry.proofs.steps.quotient.Goals as goal

pub returns-clause-value : goal.returns-clause-value
unfolding number_of
returns-clause-value c =
    let number = c.ranges.number in
    let fits : FitsSigned w128 c.whole-whole.result = search rules in
    let narrow : to_z w64 (of_z w64 (to_z w128 (of_z w128 c.whole-whole.result))) ≡ c.whole-whole.result = omega (arith, ints) in
    let whole : c.whole-whole.result ≡ quotient c.args.number (pos c.args.divisor) = simp to_z-of_z at c.whole-whole.ensures.value in
    let rest : pos c.rest.result ≡ int_rem_euclid c.args.number (pos c.args.divisor) = simp to_z-of_z at c.rest.ensures.value in
    rw (narrow, whole, rest) (divided_again c.args.number c.args.divisor (omega arith))
