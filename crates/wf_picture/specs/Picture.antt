-- The picture of a map that a request is answered with: what is painted and labelled in its view,
-- cut to its part of it.
use Rattle.std.specs.Prelude.{◌≡◌, ◌≤◌, ◌+◌, ℕ, List, ℤ, pos}
use Rattle.std.specs.Option.{unwrap_or}
use Rattle.wf_def.specs.Definition.{Definition}
use Rattle.wf_def.specs.Extent.{ExtentValue}
use Rattle.wf_def.specs.declared.color.Color.{Color}
use Rattle.wf_geometry.specs.Exact.{plus}
use Rattle.wf_geometry.specs.Operation.{operations, color_at}
use Rattle.wf_paint.specs.Pixmap.{PixmapValue, IsPicture}
use Rattle.wf_geometry.specs.Tile.{IsViewOf}
use Rattle.wf_geometry.specs.View.{ViewValue}
use Rattle.wf_geometry.specs.declared.view.Corner.{Corner}
use Rattle.wf_label.specs.Ink.{inked}
use Rattle.wf_label.specs.Label.{candidates}
use Rattle.wf_label.specs.Placed.{PlacedValue}
use Rattle.wf_label.specs.LabelLayout.{placed_of}
use Rattle.wf_picture.specs.Image.{image}
use Rattle.wf_picture.specs.Request.{RequestValue}
use Rattle.wf_picture.specs.declared.request.Size.{Size}

-- the labels that are placed in the view, in label order
unfoldable pub placed : Definition → List ℕ → ViewValue → List PlacedValue
placed map layers view = placed_of view (candidates map layers view)

-- the picture of the whole view: the colour of the first placed label that inks the pixel, else of
-- the last operation that covers it, else the background
unfoldable pub labelled : Definition → List ℕ → ViewValue → Color → ℤ → ℤ → Color
labelled map layers view background column row =
    inked (placed map layers view) (color_at (operations map layers view) background column row) column row

-- the pixmap is the picture of the whole view
abbrev pub IsWholePicture : Definition → List ℕ → ViewValue → Color → PixmapValue → Type 0
IsWholePicture map layers view background pixmap =
    IsPicture view.width view.height (labelled map layers view background) pixmap

-- the pixel of the view that is the lower left one of the picture
abbrev pub corner_of : ViewValue → Corner
corner_of view = unwrap_or view.corner (record { column = 0; row = 0 })

-- a picture of this size that begins there is a part of the view
pub record IsPartOfView (size : Size) (view : ViewValue) : Type 0 where
  pub columns : (corner_of view).column + size.width ≤ view.width
  pub rows : (corner_of view).row + size.height ≤ view.height

-- the part of a picture whose lower left pixel is the corner
unfoldable pub crop : Corner → (ℤ → ℤ → Color) → ℤ → ℤ → Color
crop corner whole column row = whole (plus column (pos corner.column)) (plus row (pos corner.row))

-- the picture of the view, or the part of it that is the tile's
unfoldable pub picture : Definition → List ℕ → ViewValue → Color → ℤ → ℤ → Color
picture map layers view background = crop (corner_of view) (labelled map layers view background)

-- the view is the one that the request has in the map with this extent
abbrev pub IsViewFor : ExtentValue → RequestValue → ViewValue → Type 0
IsViewFor extent request view = IsViewOf extent request.bbox request.size.width request.size.height view

-- the bytes are the file of the picture of the request's layers in its box, in its size, over its
-- background
pub record IsImageOf (map : Definition) (request : RequestValue) (bytes : List ℕ) : Type 0 where
  pub view : ViewValue
  pub is : IsViewFor map.extent request view
  pub file : bytes ≡ image request.size.width request.size.height (picture map request.layers view request.background)

-- of whichever map and request of this size the pixmap is the picture of the view, the bytes are
-- the request's image
abbrev pub IsCutOut : PixmapValue → ViewValue → Size → List ℕ → Type 0
IsCutOut pixmap view size bytes = (map : Definition) (request : RequestValue) → request.size ≡ size →
    IsViewFor map.extent request view →
    IsWholePicture map request.layers view request.background pixmap → IsImageOf map request bytes

-- a request has one view at most
abbrev pub EachRequestHasOneView : Type 0
EachRequestHasOneView = (extent : ExtentValue) (request : RequestValue) (view other : ViewValue) →
    IsViewFor extent request view → IsViewFor extent request other → other ≡ view

-- so it has one image at most
abbrev pub EachRequestHasOneImage : Type 0
EachRequestHasOneImage = (map : Definition) (request : RequestValue) (bytes others : List ℕ) →
    IsImageOf map request bytes → IsImageOf map request others → others ≡ bytes

-- the request has an image
pub record HasImage (map : Definition) (request : RequestValue) : Type 0 where
  pub bytes : List ℕ
  pub is : IsImageOf map request bytes

-- each request has one
abbrev pub EachRequestHasAnImage : Type 0
EachRequestHasAnImage = (map : Definition) (request : RequestValue) → HasImage map request
