use Rattle.std.proofs.Common.{◌≡◌, ℤ, ℕ, pos, FitsSigned, w64, to_z-of_z, refl, rules, ap, sym, ◌∙◌, ◌<◌, nat_lt}
use Rattle.wf_geometry.specs.Exact.{plus, is_less}
use Rattle.wf_geometry.specs.Square.{square_start, is_in_span}
use Rattle.wf_geometry.proofs.SpanLemmas.{IsSpanOf-ends}
use Rattle.wf_geometry.proofs.square.span_about.Goals as goal

pub returns : goal.returns
unfolding is_in_span
returns c =
    let position = c.ranges.position in
    let first : FitsSigned w64 c.square_start-start.result = search rules in
    let last : FitsSigned w64 c.square_end.result = search rules in
    let start : c.square_start-start.result ≡ square_start c.args.size c.args.position = simp to_z-of_z at c.square_start-start.ensures.value in
    let end : c.square_end.result ≡ plus c.square_start-start.result (pos c.args.size) = simp to_z-of_z at c.square_end.ensures in
    let from : (u : ℕ) → u < c.args.most → is_less (pos u) c.square_start-start.result ≡ nat_lt u c.integers_below.result = simp to_z-of_z at c.integers_below.ensures.below in
    let to : (u : ℕ) → u < c.args.most → is_less (pos u) c.square_end.result ≡ nat_lt u c.integers_below-2.result = simp to_z-of_z at c.integers_below-2.ensures.below in
    IsSpanOf-ends (λ u. is_less (pos u) (square_start c.args.size c.args.position)) (λ u. is_less (pos u) (plus (square_start c.args.size c.args.position) (pos c.args.size)))
    (λ u. is_in_span c.args.size c.args.position (pos u)) c.args.most _ c.integers_below-2.ensures.within
    (λ u within. ap (is_less (pos u)) (sym start) ∙ from u within)
    (λ u within. ap (is_less (pos u)) (sym (end ∙ ap (λ (z : ℤ). plus z (pos c.args.size)) start)) ∙ to u within)
    (λ u. refl)
