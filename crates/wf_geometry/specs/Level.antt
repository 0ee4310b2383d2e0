-- Levels: numbers that change by a constant step from each pixel to the next.
use Rattle.std.specs.Prelude.{ℕ, ◌&&◌, Bool, not, ℤ, pos}
use Rattle.wf_geometry.specs.Exact.{plus, product, opposite, is_less}
use Rattle.wf_geometry.specs.Limit.{pixel_side}
use Rattle.wf_geometry.specs.declared.levels.Levels.{Levels}

-- the level at a pixel, counted from 0
unfoldable pub level : ℤ → ℤ → ℤ → ℤ
level start step pixel = plus start (product step pixel)

-- it lies within the margin about 0; the lower border counts, the upper doesn't
unfoldable pub is_in_margin : ℤ → ℤ → Bool
is_in_margin margin z = not (is_less z (opposite margin)) && is_less z margin

-- the level in the first column of a row
unfoldable pub row_level : Levels → ℕ → ℤ
row_level l row = level l.origin (product (pos pixel_side) l.up) (pos row)

-- the level in a column of a row
unfoldable pub level_at : Levels → ℕ → ℕ → ℤ
level_at l column row = level (row_level l row) (product (pos pixel_side) l.across) (pos column)
