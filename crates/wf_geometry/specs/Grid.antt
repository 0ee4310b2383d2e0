-- The tile grid: at level z the extent's width has 2^z cells. Cells count from the extent's lower
-- left corner; those below it are negative.
use Rattle.std.specs.Prelude.{◌≡◌, true, ℕ, ◌*◌, ◌^◌, ◌≤◌, ◌&&◌, ◌==◌, Bool, nat_le, ℤ, pos, nat_abs}
use Rattle.wf_def.specs.Extent.{ExtentValue}
use Rattle.wf_geometry.specs.Exact.{plus, difference, product}
use Rattle.wf_geometry.specs.Limit.{least_cell, most_level, tile_pixels}
use Rattle.wf_geometry.specs.declared.grid.GridCell.{GridCell}

-- the extent's width in millionths, which scales the grid on both axes
unfoldable pub width_of : ExtentValue → ℕ
width_of e = nat_abs (difference e.maxx e.minx)

-- With `cells` cells along the width, grid line k is at `least + k * width / cells`. The coordinate
-- x lies within 2 millionths of it; both sides are multiplied by the number of cells.
unfoldable pub is_on_line : ℤ → ℕ → ℕ → ℤ → ℤ → Bool
is_on_line least width cells k x =
    nat_le (nat_abs (difference (product (difference x least) (pos cells)) (product k (pos width)))) (2 * cells)

-- the two coordinates are the sides of cell k
unfoldable pub is_cell : ℤ → ℕ → ℕ → ℤ → ℤ → ℤ → Bool
is_cell least width cells k low high = is_on_line least width cells k low && is_on_line least width cells (plus k (pos 1)) high

-- the cells are wide enough for a level
unfoldable pub has_level : ℕ → ℕ → Bool
has_level width cells = nat_le (least_cell * cells) width

-- the box is the cell in the column and row, with `cells` cells along the width
unfoldable pub is_box : ExtentValue → ExtentValue → ℕ → ℤ → ℤ → Bool
is_box e box cells col row = has_level (width_of e) cells
    && (is_cell e.minx (width_of e) cells col box.minx box.maxx && is_cell e.miny (width_of e) cells row box.miny box.maxy)

-- a picture of the box at this size is the tile of the cell
unfoldable pub fits : ExtentValue → ExtentValue → ℕ → ℕ → GridCell → Bool
fits e box width height cell = width == tile_pixels && height == tile_pixels && nat_le cell.z most_level
    && is_box e box (2 ^ cell.z) cell.col cell.row

-- at most one cell fits: two that fit a picture of the same box at the same size are equal
abbrev pub AtMostOneFits : Type 0
AtMostOneFits = (e box : ExtentValue) (width height : ℕ) (c d : GridCell) → fits e box width height c ≡ true → fits e box width height d ≡ true → c ≡ d

-- the level is one of the grid, and column and row lie in the range that boxes of map coordinates
-- can reach
pub record IsGridCell (cell : GridCell) : Type 0 where
  pub level : cell.z ≤ most_level
  pub column_near : nat_abs cell.col ≤ 2 ^ 39
  pub row_near : nat_abs cell.row ≤ 2 ^ 39
