-- Pictures as bytes: three a pixel, red, green and blue, the top row first.
use Rattle.std.specs.Prelude.{◌≡◌, ◌≢◌, ℕ, ◌+◌, ◌-◌, ◌*◌, ◌/◌, ◌%◌, ◌<◌, ◌≤◌, List, length, slice_index, ℤ, pos}
use Rattle.wf_def.specs.declared.color.Color.{Color}
use Rattle.wf_geometry.specs.Limit.{most_pixels}

-- a size in pixels, and the bytes
pub record PixmapValue : Type 0 where
  pub width : ℕ
  pub height : ℕ
  pub bytes : List ℕ

abbrev pub area : PixmapValue → ℕ
area p = p.width * p.height

pub record IsPixmap (p : PixmapValue) : Type 0 where
  pub width_least : 1 ≤ p.width
  pub width_most : p.width ≤ most_pixels
  pub height_least : 1 ≤ p.height
  pub height_most : p.height ≤ most_pixels
  pub size : length p.bytes ≡ 3 * (p.width * p.height)

-- the colour of the pixel at this index; indices count row by row from the upper left
unfoldable pub pixel_at : List ℕ → ℕ → Color
pixel_at bytes index = record { r = slice_index bytes (3 * index); g = slice_index bytes (3 * index + 1); b = slice_index bytes (3 * index + 2) }

-- its column, and its row counted from the bottom
unfoldable pub column_of : ℕ → ℕ → ℕ
column_of width index = index % width

unfoldable pub row_of : ℕ → ℕ → ℕ → ℕ
row_of width height index = height - 1 - index / width

-- a picture of this size in which each pixel has the colour that the function gives for its column
-- and row
pub record IsPicture (width height : ℕ) (picture : ℤ → ℤ → Color) (p : PixmapValue) : Type 0 where
  pub wide : p.width ≡ width
  pub high : p.height ≡ height
  pub pixels : (i : ℕ) → i < width * height → pixel_at p.bytes i ≡ picture (pos (column_of width i)) (pos (row_of width height i))

-- the pixel at one index has the colour, every other its old one
pub record IsSet (index : ℕ) (color : Color) (old new : PixmapValue) : Type 0 where
  pub width : new.width ≡ old.width
  pub height : new.height ≡ old.height
  pub changed : pixel_at new.bytes index ≡ color
  pub others : (i : ℕ) → i < old.width * old.height → i ≢ index → pixel_at new.bytes i ≡ pixel_at old.bytes i
