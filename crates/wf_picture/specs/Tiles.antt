-- Tiles: which of them are drawn in one view, and that each is a part of one picture.
use Rattle.std.specs.Prelude.{◌≡◌, ℕ, true, List, pos}
use Rattle.wf_def.specs.Definition.{Definition}
use Rattle.wf_def.specs.declared.color.Color.{Color}
use Rattle.wf_geometry.specs.Exact.{quotient}
use Rattle.wf_geometry.specs.Grid.{fits}
use Rattle.wf_geometry.specs.Limit.{shared_tiles, tile_pixels}
use Rattle.wf_geometry.specs.Tile.{tile_start, tile_view}
use Rattle.wf_geometry.specs.declared.grid.GridCell.{GridCell}
use Rattle.wf_geometry.specs.declared.view.Corner.{Corner}
use Rattle.wf_picture.specs.Image.{image}
use Rattle.wf_picture.specs.Picture.{labelled, crop, IsImageOf}
use Rattle.wf_picture.specs.Request.{RequestValue}

-- two cells of one level are among the same four columns and the same four rows
pub record ShareAView (cell other : GridCell) : Type 0 where
  pub level : cell.z ≡ other.z
  pub columns : quotient cell.col (pos shared_tiles) ≡ quotient other.col (pos shared_tiles)
  pub rows : quotient cell.row (pos shared_tiles) ≡ quotient other.row (pos shared_tiles)

-- then one picture is drawn for both
abbrev pub SharedViewsHaveOnePicture : Type 0
SharedViewsHaveOnePicture = (map : Definition) (layers : List ℕ) (background : Color) (cell other : GridCell) → ShareAView cell other →
    labelled map layers (tile_view map.extent cell) background ≡ labelled map layers (tile_view map.extent other) background

-- where a cell's tile lies in it
abbrev pub tile_corner : GridCell → Corner
tile_corner cell = record { column = tile_start cell.col; row = tile_start cell.row }

-- and each of their tiles is the part of it that lies there
abbrev pub TilesAreCropsOfOnePicture : Type 0
TilesAreCropsOfOnePicture = (map : Definition) (request : RequestValue) (cell other : GridCell) → ShareAView cell other →
    fits map.extent request.bbox request.size.width request.size.height other ≡ true → (bytes : List ℕ) → IsImageOf map request bytes →
    bytes ≡ image tile_pixels tile_pixels (crop (tile_corner other) (labelled map request.layers (tile_view map.extent cell) request.background))
