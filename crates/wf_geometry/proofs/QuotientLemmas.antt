-- Bounds of a quotient that is rounded down.
use Rattle.std.proofs.Common.{◌≡◌, ℕ, ◌+◌, ◌*◌, ◌/◌, ◌<◌, ◌≤◌, ℤ, pos, negsuc, ◌+ℤ◌, ◌-ℤ◌, ◌*ℤ◌, ◌≤ℤ◌, ◌<ℤ◌, nat_abs, ap, arith}
use Rattle.std.proofs.lemmas.Int.{ints}
use Rattle.std.proofs.Math.Nat.{div-le_of_le-mul, div-lt_iff_lt-mul, le-div_iff_mul-le, mul-le-mul, mul_comm}
use Rattle.std.specs.Int.{int_div_euclid, int_rem_euclid}
use Rattle.wf_def.specs.Limit.{most_millionths}
use Rattle.wf_geometry.specs.Exact.{plus, difference, product, quotient}
use Rattle.wf_geometry.specs.View.{most_scale}

-- a number of at most m divisors has a quotient of at most m
pub quotient_bound : (z : ℤ) (n m : ℕ) → 0 < n → nat_abs z ≤ n * m → nat_abs (int_div_euclid z (pos n)) ≤ m
quotient_bound (pos a) n m least h = div-le_of_le-mul n h
quotient_bound (negsuc a) n m least h =
    let below : a < m * n = omega (arith, mul_comm m n) in
    let quotient : a / n < m = (div-lt_iff_lt-mul least).1 below in
    omega arith

-- the quotient's multiple and the rest make up the number
pub divided_again : (z : ℤ) (n : ℕ) → 0 < n → plus (product (quotient z (pos n)) (pos n)) (int_rem_euclid z (pos n)) ≡ z
unfolding plus product quotient
divided_again (pos a) n some = omega (arith, ints)
divided_again (negsuc a) n some = omega (arith, ints)

-- a distance of at most two limits, scaled as in a view, is at most
-- `2 * most_scale * most_millionths` spans
pub stretched : (d s n : ℕ) → d ≤ 2 * most_millionths → s ≤ most_scale * n → d * s ≤ n * (2 * most_scale * most_millionths)
stretched d s n most finest =
    let product : d * s ≤ 2 * most_millionths * (most_scale * n) = mul-le-mul most finest in
    omega arith

quotient_of : (a n k : ℕ) → 0 < n → k * n ≤ a → a < k * n + n → a / n ≡ k
quotient_of a n k least from below =
    let most : a / n < k + 1 = (div-lt_iff_lt-mul least).1 (omega arith) in
    let enough : k ≤ a / n = (le-div_iff_mul-le least).1 from in
    omega arith

-- the quotient is the only number whose multiple is less than a divisor below
pub quotient_only : (z k : ℤ) (n : ℕ) → 0 < n → (k *ℤ pos n) ≤ℤ z → z <ℤ (k *ℤ pos n +ℤ pos n) → int_div_euclid z (pos n) ≡ k
quotient_only (pos a) (pos k) n least from below = ap pos (quotient_of a n k least (omega (arith, ints)) (omega (arith, ints)))
quotient_only (pos a) (negsuc k) n least from below = absurd (omega (arith, ints))
quotient_only (negsuc a) (pos k) n least from below = absurd (omega (arith, ints))
quotient_only (negsuc a) (negsuc k) n least from below = ap negsuc (quotient_of a n k least (omega (arith, ints)) (omega (arith, ints)))

-- what lies within a quarter of the width of a multiple is nearest to that one
pub nearest_only : (a k : ℤ) (n : ℕ) → 0 < n → 4 * nat_abs (a -ℤ k *ℤ pos n) ≤ n → int_div_euclid (pos 2 *ℤ a +ℤ pos n) (pos (2 * n)) ≡ k
nearest_only a k n least near = quotient_only (pos 2 *ℤ a +ℤ pos n) k (2 * n) (omega arith) (omega (arith, ints)) (omega (arith, ints))

-- the same for the line of a grid of this width
pub nearest_line : (number k : ℤ) (width : ℕ) → 0 < width → 4 * nat_abs (difference number (product k (pos width))) ≤ width →
    quotient (plus (product (pos 2) number) (pos width)) (pos (2 * width)) ≡ k
unfolding difference product plus quotient
nearest_line number k width some near = nearest_only number k width some near
