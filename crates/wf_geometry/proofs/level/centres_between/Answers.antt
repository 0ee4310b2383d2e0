use Rattle.std.proofs.Common.{◌≡◌, ◌<◌, ◌&&◌, not, ℕ, pos, nat_lt, FitsSigned, w64, to_z-of_z, refl, sym, ap, ◌∙◌, rules}
use Rattle.wf_geometry.specs.Exact.{plus, is_less}
use Rattle.wf_geometry.specs.Position.{middle}
use Rattle.wf_geometry.proofs.LevelLemmas.{not_above}
use Rattle.wf_geometry.proofs.SpanLemmas.{IsSpanOf-ends}
use Rattle.wf_geometry.proofs.level.centres_between.Goals as goal

pub returns : goal.returns
returns c =
    let low = c.ranges.low in
    let high = c.ranges.high in
    let fits : FitsSigned w64 c.above.result = search rules in
    let above : c.above.result ≡ plus c.args.high (pos 1) = simp to_z-of_z at c.above.ensures in
    let from : (u : ℕ) → u < c.args.most → is_less (middle (pos u)) c.args.low ≡ nat_lt u c.centres_below.result = simp to_z-of_z at c.centres_below.ensures.below in
    let to : (u : ℕ) → u < c.args.most → is_less (middle (pos u)) c.above.result ≡ nat_lt u c.centres_below-2.result = simp to_z-of_z at c.centres_below-2.ensures.below in
    IsSpanOf-ends (λ u. is_less (middle (pos u)) c.args.low) (λ u. not (is_less c.args.high (middle (pos u))))
    (λ u. not (is_less (middle (pos u)) c.args.low) && not (is_less c.args.high (middle (pos u)))) c.args.most _ c.centres_below-2.ensures.within
    from (λ u within. not_above c.args.high (middle (pos u)) ∙ ap (is_less (middle (pos u))) (sym above) ∙ to u within) (λ u. refl)
