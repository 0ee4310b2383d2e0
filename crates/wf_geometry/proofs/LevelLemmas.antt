-- Where a number that changes by a constant step from pixel to pixel lies below a bound.
use Rattle.std.proofs.Common.{◌≡◌, ℕ, zero, suc, ◌*◌, ◌<◌, ◌≤◌, not, nat_lt, ℤ, pos, negsuc, ◌*ℤ◌, neg_ℤ, refl, sym, ap, ◌∙◌, arith}
use Rattle.std.proofs.lemmas.Int.{ints}
use Rattle.std.proofs.Math.IntN.{zero-*ℤ, negsuc-*ℤ-pos, pos-*ℤ-pos, neg_ℤ-neg_ℤ}
use Rattle.wf_geometry.specs.Exact.{plus, difference, product, opposite, is_less}
use Rattle.wf_geometry.specs.Level.{level, is_in_margin}
use Rattle.wf_geometry.specs.Span.{IsSpanOf}
use Rattle.wf_geometry.specs.declared.level.Span.{Span}
use Rattle.wf_geometry.proofs.SpanLemmas.{IsSpanOf-ends}

-- ---- one pixel

less_above : (start p bound : ℤ) → is_less (plus start p) bound ≡ is_less p (difference bound start)
unfolding is_less plus difference
less_above start p bound = grind (arith, ints)

-- a level that rises
pub rising_level : (start step u bound : ℤ) → is_less (level start step u) bound ≡ is_less (product step u) (difference bound start)
unfolding level
rising_level start step u bound = less_above start (product step u) bound

pub opposed : (step : ℤ) (u : ℕ) → neg_ℤ step *ℤ pos u ≡ neg_ℤ (step *ℤ pos u)
opposed (pos zero) u = zero-*ℤ (pos u) ∙ sym (ap neg_ℤ (zero-*ℤ (pos u)))
opposed (pos (suc n)) u = negsuc-*ℤ-pos n u ∙ sym (ap neg_ℤ (pos-*ℤ-pos (suc n) u))
opposed (negsuc n) u = pos-*ℤ-pos (suc n) u ∙ sym (neg_ℤ-neg_ℤ (pos (suc n * u))) ∙ sym (ap neg_ℤ (negsuc-*ℤ-pos n u))

pub level_still : (start u : ℤ) → level start (pos 0) u ≡ start
unfolding level plus product
level_still start u = omega (arith, ints)

-- a number that isn't above another lies below the next one
pub not_above : (high z : ℤ) → not (is_less high z) ≡ is_less z (plus high (pos 1))
unfolding is_less plus
not_above high z = grind (arith, ints)

-- ---- a row of pixels

-- where levels rise, the pixels within a margin start after the steps to its lower border and end
-- after those to its upper one
pub rising_span : (start step margin : ℤ) (most : ℕ) (span : Span) → span.to ≤ most →
    ((u : ℕ) → u < most → is_less (product step (pos u)) (difference (opposite margin) start) ≡ nat_lt u span.from) →
    ((u : ℕ) → u < most → is_less (product step (pos u)) (difference margin start) ≡ nat_lt u span.to) →
    IsSpanOf (λ u. is_in_margin margin (level start step (pos u))) most span
unfolding is_in_margin
rising_span start step margin most span within from to =
    IsSpanOf-ends (λ u. is_less (level start step (pos u)) (opposite margin)) (λ u. is_less (level start step (pos u)) margin)
    (λ u. is_in_margin margin (level start step (pos u))) most span within
    (λ u below. rising_level start step (pos u) (opposite margin) ∙ from u below)
    (λ u below. rising_level start step (pos u) margin ∙ to u below)
    (λ u. refl)
