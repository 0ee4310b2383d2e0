use Rattle.std.proofs.Common.{◌≡◌, ◌*◌, ℤ, pos, FitsSigned, w64, to_z-of_z, sym, ap, ◌∙◌, rules, arith}
use Rattle.std.specs.Int.{w128}
use Rattle.wf_geometry.specs.Exact.{plus, product, quotient}
use Rattle.wf_geometry.proofs.QuotientLemmas.{nearest_line}
use Rattle.wf_geometry.proofs.grid.nearest.Goals as goal

pub returns-clause-only : goal.returns-clause-only
returns-clause-only c = λ k near.
    let known : FitsSigned w64 c.whole.result = search rules in
    let twice : FitsSigned w128 c.double.result = search rules in
    let whole : c.whole.result ≡ k =
    c.whole.ensures.value ∙ ap (λ (z : ℤ). quotient z (pos (2 * c.args.width))) (to_z-of_z twice ∙ c.double.ensures.value)
    ∙ ap (λ (z : ℤ). quotient (plus (product (pos 2) z) (pos c.args.width)) (pos (2 * c.args.width))) (to_z-of_z c.ranges.number)
    ∙ nearest_line c.args.number k c.args.width (omega arith) near in
    rw (to_z-of_z known) (sym whole)
