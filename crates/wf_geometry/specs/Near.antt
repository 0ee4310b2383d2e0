-- Bounds of the integers of a view, so that no sum or product of them overflows.
use Rattle.std.specs.Prelude.{ℤ, ◌^◌, ◌≤◌, nat_abs}

-- a position on an axis, in sixteenths of a pixel
abbrev pub IsNear : ℤ → Type 0
IsNear z = nat_abs z ≤ 2 ^ 53

-- the distance of two positions
abbrev pub IsDistance : ℤ → Type 0
IsDistance z = nat_abs z ≤ 2 ^ 54

-- a product of two such distances
abbrev pub IsArea : ℤ → Type 0
IsArea z = nat_abs z ≤ 2 ^ 108
