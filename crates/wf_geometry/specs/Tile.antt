-- The view of a request: that of a tile of the grid, or of the box itself.
use Rattle.std.specs.Prelude.{◌≡◌, ℕ, ◌*◌, ◌^◌, Some, None, true, false, ℤ, pos, nat_abs}
use Rattle.std.specs.Int.{int_rem_euclid}
use Rattle.wf_def.specs.Extent.{ExtentValue}
use Rattle.wf_geometry.specs.Exact.{difference, product, quotient}
use Rattle.wf_geometry.specs.Grid.{width_of, fits}
use Rattle.wf_geometry.specs.Limit.{most_pixels, pixel_side, shared_tiles, tile_pixels}
use Rattle.wf_geometry.specs.View.{AxisValue, ViewValue}
use Rattle.wf_geometry.specs.declared.grid.GridCell.{GridCell}

-- the box's side over `pixels` pixels
abbrev pub box_axis : ℤ → ℤ → ℕ → AxisValue
box_axis low high pixels = record { origin = low; scale = pixel_side * pixels; span = nat_abs (difference high low); shift = pos 0 }

abbrev pub box_view : ExtentValue → ℕ → ℕ → ViewValue
box_view box width height = record {
  width = width;
  height = height;
  x = box_axis box.minx box.maxx width;
  y = box_axis box.miny box.maxy height;
  corner = None;
}

-- Tiles are drawn four by four. A cell is width / cells of the extent wide and takes the pixels of
-- a tile; the view starts at the first of the four cells that this one is among.
unfoldable pub tile_shift : ℤ → ℤ
tile_shift k = product (quotient k (pos shared_tiles)) (pos (pixel_side * most_pixels))

-- the cell's offset among its four, in pixels
unfoldable pub tile_start : ℤ → ℕ
tile_start k = nat_abs (int_rem_euclid k (pos shared_tiles)) * tile_pixels

abbrev pub tile_axis : ℤ → ℕ → ℕ → ℤ → AxisValue
tile_axis origin width cells k = record { origin = origin; scale = pixel_side * tile_pixels * cells; span = width; shift = tile_shift k }

abbrev pub tile_view : ExtentValue → GridCell → ViewValue
tile_view e cell = record {
  width = most_pixels;
  height = most_pixels;
  x = tile_axis e.minx (width_of e) (2 ^ cell.z) cell.col;
  y = tile_axis e.miny (width_of e) (2 ^ cell.z) cell.row;
  corner = Some (record { column = tile_start cell.col; row = tile_start cell.row });
}

-- the view of the tile's cell if the request is a tile, else that of the box
pub record IsViewOf (e box : ExtentValue) (width height : ℕ) (view : ViewValue) : Type 0 where
  pub tile : (cell : GridCell) → fits e box width height cell ≡ true → view ≡ tile_view e cell
  pub plain : ((cell : GridCell) → fits e box width height cell ≡ false) → view ≡ box_view box width height

-- a request of this box at this size has a view
pub record HasView (e box : ExtentValue) (width height : ℕ) : Type 0 where
  pub view : ViewValue
  pub is : IsViewOf e box width height view

-- each has one
abbrev pub EachRequestHasAView : Type 0
EachRequestHasAView = (e box : ExtentValue) (width height : ℕ) → HasView e box width height
