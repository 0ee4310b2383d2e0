-- Squares of pixels about a position.
use Rattle.std.specs.Prelude.{ℕ, ◌/◌, ◌&&◌, Bool, not, ℤ, pos}
use Rattle.wf_geometry.specs.Exact.{plus, difference, quotient, is_less}
use Rattle.wf_geometry.specs.Limit.{pixel_side}
use Rattle.wf_geometry.specs.Position.{PositionValue}

-- the first column of a square of `size` pixels about the position
unfoldable pub square_start : ℕ → ℤ → ℤ
square_start size position = difference (quotient position (pos pixel_side)) (pos (size / 2))

-- the column belongs to the square
unfoldable pub is_in_span : ℕ → ℤ → ℤ → Bool
is_in_span size position column =
    not (is_less column (square_start size position)) && is_less column (plus (square_start size position) (pos size))

-- the pixel in the column and row belongs to the square
unfoldable pub is_in_square : ℕ → PositionValue → ℤ → ℤ → Bool
is_in_square size position column row = is_in_span size position.x column && is_in_span size position.y row
