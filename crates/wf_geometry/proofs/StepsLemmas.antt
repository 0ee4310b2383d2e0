-- Which multiples of a step lie below a bound: those up to a quotient.
use Rattle.std.proofs.Common.{◌≡◌, ℕ, suc, ◌+◌, ◌-◌, ◌*◌, ◌/◌, ◌<◌, ◌≤◌, inl, inr, false, int_lt, nat_lt, ℤ, pos, negsuc, ◌+ℤ◌, ◌-ℤ◌, ◌*ℤ◌, ◌≤ℤ◌, ◌<ℤ◌, neg_ℤ, unsigned_abs, refl, sym, ◌∙◌, arith}
use Rattle.std.proofs.lemmas.Bool.Decides.{same_from_decides, Decides-ltb, Decides-like}
use Rattle.std.proofs.lemmas.Int.{ints}
use Rattle.std.proofs.Math.Nat.{le-div_iff_mul-le, mul-le-mul, mul_comm}
use Rattle.std.proofs.Math.IntN.{negsuc-*ℤ-pos}
use Rattle.std.proofs.lemmas.Bool.{cases_lt}
use Rattle.wf_geometry.specs.Exact.{plus, product, is_less}
use Rattle.wf_geometry.specs.Position.{middle}
use Rattle.wf_geometry.specs.Limit.{half_side, pixel_side}

-- two comparisons agree where each follows from the other
pub less_alike : (a b c d : ℕ) → (a < b → c < d) → (c < d → a < b) → nat_lt a b ≡ nat_lt c d
less_alike a b c d forth back = same_from_decides (nat_lt a b) (nat_lt c d) (Decides-ltb a b) (Decides-like (nat_lt c d) back forth (Decides-ltb c d))

pub multiples_counted : (step bound u : ℕ) → 1 ≤ step → 1 ≤ bound → nat_lt (step * u) bound ≡ nat_lt u ((bound - 1) / step + 1)
multiples_counted step bound u some positive =
    let least : 0 < step = omega arith in
    less_alike (step * u) bound u ((bound - 1) / step + 1)
    (λ below. let up : u ≤ (bound - 1) / step = (le-div_iff_mul-le least).1 (omega (arith, mul_comm step u)) in omega arith)
    (λ counted. let up : u * step ≤ bound - 1 = (le-div_iff_mul-le least).0 (omega arith) in omega (arith, mul_comm step u))

-- for a positive step and bound, the sizes are compared
pub positive_multiples : (step bound : ℤ) (u : ℕ) → pos 1 ≤ℤ step → pos 0 <ℤ bound →
    is_less (product step (pos u)) bound ≡ nat_lt (unsigned_abs step * u) (unsigned_abs bound)
unfolding product is_less
positive_multiples (pos s) (pos b) u some positive = refl
positive_multiples (pos s) (negsuc b) u some positive = absurd (omega (arith, ints))
positive_multiples (negsuc s) bound u some positive = absurd (omega (arith, ints))

-- no multiple is below a bound that isn't positive
pub no_multiples : (step bound : ℤ) (u : ℕ) → pos 1 ≤ℤ step → bound ≤ℤ pos 0 → is_less (product step (pos u)) bound ≡ nat_lt u 0
unfolding product is_less
no_multiples (pos s) (pos b) u some none =
    let zero_bound : b ≡ 0 = omega (arith, ints) in
    less_alike (s * u) b u 0 (λ below. absurd (omega arith)) (λ below. absurd (omega arith))
no_multiples (pos s) (negsuc b) u some none = less_alike 0 0 u 0 (λ below. absurd (omega arith)) (λ below. absurd (omega arith))
no_multiples (negsuc s) bound u some none = absurd (omega (arith, ints))

-- a centre is below a position iff its pixel, in sixteenths, is half a pixel below it
pub centre_less : (u position : ℤ) → is_less (middle u) position ≡ is_less (product (pos pixel_side) u) (position -ℤ pos half_side)
unfolding plus is_less
centre_less u position = grind (arith, ints)

-- the multiples of a divisor that aren't above a number are those up to its quotient
pub multiples_to : (divisor rest u : ℕ) (whole : ℤ) → rest < divisor →
    is_less (product (pos divisor) (pos u)) (plus (plus (product whole (pos divisor)) (pos rest)) (pos 1)) ≡ is_less (pos u) (plus whole (pos 1))
unfolding product plus is_less
multiples_to d r u (pos q) below = less_alike (d * u) (q * d + r + 1) u (q + 1)
    (λ under. elim (cases_lt u (q + 1)) [
      | inl before ↦ before
      | inr after ↦
          let more : (q + 1) * d ≤ u * d = mul-le-mul after (omega arith) in
          absurd (omega (arith, mul_comm u d))
    ])
    (λ before. let most : u * d ≤ q * d = mul-le-mul (omega arith) (omega arith) in omega (arith, mul_comm u d))
multiples_to d r u (negsuc q) below =
    let more : 1 * d ≤ suc q * d = mul-le-mul (omega arith) (omega arith) in
    let under : negsuc q *ℤ pos d ≡ neg_ℤ (pos (suc q * d)) = negsuc-*ℤ-pos q d in
    let some : int_lt (pos (d * u)) ((negsuc q *ℤ pos d +ℤ pos r) +ℤ pos 1) ≡ false = grind (arith, ints) in
    let none : int_lt (pos u) (negsuc q +ℤ pos 1) ≡ false = grind (arith, ints) in
    some ∙ sym none
