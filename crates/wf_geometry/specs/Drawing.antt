-- One drawing over the whole grid of a level. Every tile is a part of it.
use Rattle.std.specs.Prelude.{◌≡◌, ℕ, ◌*◌, ◌^◌, List, None, ℤ, pos}
use Rattle.wf_def.specs.Definition.{Definition}
use Rattle.wf_def.specs.Extent.{ExtentValue}
use Rattle.wf_def.specs.declared.color.Color.{Color}
use Rattle.wf_geometry.specs.Exact.{plus, product, quotient}
use Rattle.wf_geometry.specs.Grid.{width_of}
use Rattle.wf_geometry.specs.Limit.{most_pixels, pixel_side, shared_tiles, tile_pixels}
use Rattle.wf_geometry.specs.Operation.{operations, color_at}
use Rattle.wf_geometry.specs.Tile.{tile_view}
use Rattle.wf_geometry.specs.View.{AxisValue, ViewValue}
use Rattle.wf_geometry.specs.declared.grid.GridCell.{GridCell}

-- the axis of the whole grid: pixels count from the extent's corner; those below it are negative
abbrev pub grid_axis : ℤ → ℕ → ℕ → AxisValue
grid_axis origin width cells = record { origin = origin; scale = pixel_side * tile_pixels * cells; span = width; shift = pos 0 }

abbrev pub grid_view : ExtentValue → ℕ → ViewValue
grid_view e z = record {
  width = most_pixels;
  height = most_pixels;
  x = grid_axis e.minx (width_of e) (2 ^ z);
  y = grid_axis e.miny (width_of e) (2 ^ z);
  corner = None;
}

-- the colour of a pixel of the one drawing
abbrev pub drawing : Definition → List ℕ → ℕ → Color → ℤ → ℤ → Color
drawing map layers z background column row = color_at (operations map layers (grid_view map.extent z)) background column row

-- the position in the drawing of the first pixel of a cell's view
abbrev pub first_pixel : ℤ → ℤ
first_pixel k = product (quotient k (pos shared_tiles)) (pos most_pixels)

-- in every cell's view, each pixel has the colour that it has in the one drawing
abbrev pub IsPartOfTheDrawing : Type 0
IsPartOfTheDrawing = (map : Definition) (layers : List ℕ) (cell : GridCell) (background : Color) (column row : ℤ) →
    color_at (operations map layers (tile_view map.extent cell)) background column row
    ≡ drawing map layers cell.z background (plus column (first_pixel cell.col)) (plus row (first_pixel cell.row))
