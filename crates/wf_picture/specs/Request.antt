-- What a picture of a map is to show, and how large.
use Rattle.std.specs.Prelude.{ℕ, ◌≤◌, ◌≤ℤ◌, ◌+ℤ◌, pos, List}
use Rattle.wf_def.specs.Extent.{ExtentValue}
use Rattle.wf_def.specs.declared.color.Color.{Color}
use Rattle.wf_geometry.specs.Limit.{least_cell, most_pixels}
use Rattle.wf_picture.specs.declared.request.Size.{Size}

-- the layers as indices into the map's, the lowest in the picture first; the box; the size in
-- pixels; the colour of what no layer covers
pub record RequestValue : Type 0 where
  pub layers : List ℕ
  pub bbox : ExtentValue
  pub size : Size
  pub background : Color

-- a size that a picture may have
pub record IsSize (size : Size) : Type 0 where
  pub width_least : 1 ≤ size.width
  pub width_most : size.width ≤ most_pixels
  pub height_least : 1 ≤ size.height
  pub height_most : size.height ≤ most_pixels

-- a box of which both sides are long enough: a thousandth of a unit, as the narrowest cell of the
-- grid
pub record IsLargeEnough (box : ExtentValue) : Type 0 where
  pub wide : (box.minx +ℤ pos least_cell) ≤ℤ box.maxx
  pub tall : (box.miny +ℤ pos least_cell) ≤ℤ box.maxy

-- what is true of each request
pub record IsRequest (request : RequestValue) : Type 0 where
  pub size : IsSize request.size
  pub bbox : IsLargeEnough request.bbox
