-- Sums, products and comparisons of integers: the operations that views and coverage are defined
-- by.
use Rattle.std.specs.Prelude.{ℤ, ◌+ℤ◌, ◌-ℤ◌, ◌*ℤ◌, neg_ℤ, Bool, int_lt, ℕ, pos}
use Rattle.std.specs.Int.{int_div_euclid}
use Rattle.wf_geometry.specs.declared.row.Quotient.{Quotient}

unfoldable pub plus : ℤ → ℤ → ℤ
plus a b = a +ℤ b

unfoldable pub difference : ℤ → ℤ → ℤ
difference a b = a -ℤ b

unfoldable pub product : ℤ → ℤ → ℤ
product a b = a *ℤ b

unfoldable pub opposite : ℤ → ℤ
opposite z = neg_ℤ z

-- the quotient, rounded down also for negative numbers, where the divisor is positive
unfoldable pub quotient : ℤ → ℤ → ℤ
quotient a b = int_div_euclid a b

unfoldable pub is_less : ℤ → ℤ → Bool
is_less a b = int_lt a b

-- the number that is the whole multiple of the divisor with this rest
unfoldable pub number_of : ℕ → Quotient → ℤ
number_of divisor q = plus (product q.whole (pos divisor)) (pos q.rest)
