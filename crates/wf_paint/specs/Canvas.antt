-- A picture while it is painted, from the last operation to the first. A painted pixel keeps its
-- colour; a free one has none yet, and its bytes are the background's.
use Rattle.std.specs.Prelude.{◌≡◌, ℕ, ◌+◌, ◌*◌, ◌/◌, ◌<◌, ◌≤◌, true, false, List, length, Option, None, is_some}
use Rattle.std.specs.Option.{unwrap_or}
use Rattle.wf_def.specs.declared.color.Color.{Color}
use Rattle.wf_geometry.specs.Limit.{most_pixels}
use Rattle.wf_paint.specs.Pixmap.{PixmapValue, pixel_at, column_of, row_of}
use Rattle.wf_paint.specs.Cells.{IsCells, AreBlocks, is_free, painted_in}

-- a size in pixels, the background, three bytes a pixel, words with a bit for each pixel, set where
-- it is free, how many of the first words are known to have no free pixel, and words with a bit for
-- each block of pixels
pub record CanvasValue : Type 0 where
  pub width : ℕ
  pub height : ℕ
  pub background : Color
  pub bytes : List ℕ
  pub free : List ℕ
  pub known : ℕ
  pub blocks : List ℕ

-- the colour of a painted pixel
unfoldable pub painted_at : CanvasValue → ℕ → Option Color
painted_at c index = painted_in c.free c.bytes index

pub record IsCanvas (c : CanvasValue) : Type 0 where
  pub width_least : 1 ≤ c.width
  pub width_most : c.width ≤ most_pixels
  pub height_least : 1 ≤ c.height
  pub height_most : c.height ≤ most_pixels
  pub size : length c.bytes ≡ 3 * (c.width * c.height)
  pub words : length c.free ≡ c.width * c.height / 64 + 1
  pub cells : IsCells c.free c.bytes
  pub unpainted : (i : ℕ) → is_free c.free i ≡ true → pixel_at c.bytes i ≡ c.background
  pub known_within : c.known ≤ length c.free
  pub known_painted : (i : ℕ) → i < 64 * c.known → is_free c.free i ≡ false
  pub blocks : AreBlocks c.width c.height c.free c.blocks

-- a canvas of this size and background with all pixels free
pub record IsBlank (width height : ℕ) (background : Color) (c : CanvasValue) : Type 0 where
  pub wide : c.width ≡ width
  pub high : c.height ≡ height
  pub under : c.background ≡ background
  pub pixels : (i : ℕ) → i < width * height → painted_at c i ≡ None

-- all pixels are painted
pub record IsFull (c : CanvasValue) : Type 0 where
  pub pixels : (i : ℕ) → i < c.width * c.height → is_some (painted_at c i) ≡ true

-- all pixels in these rows and columns are painted
pub record IsBoxPainted (bottom top from to : ℕ) (c : CanvasValue) : Type 0 where
  pub pixels : (i : ℕ) → i < c.width * c.height → bottom ≤ row_of c.width c.height i → row_of c.width c.height i < top →
      from ≤ column_of c.width i → column_of c.width i < to → is_some (painted_at c i) ≡ true

-- some pixel is free
pub record HasFree (c : CanvasValue) : Type 0 where
  pub free : ℕ
  pub within : free < c.width * c.height
  pub unpainted : painted_at c free ≡ None

-- both have the same size, background and painted pixels
pub record IsAlike (old new : CanvasValue) : Type 0 where
  pub width : new.width ≡ old.width
  pub height : new.height ≡ old.height
  pub background : new.background ≡ old.background
  pub pixels : (i : ℕ) → i < old.width * old.height → painted_at new i ≡ painted_at old i

-- the picture of a canvas: free pixels have the background
pub record IsFinished (c : CanvasValue) (p : PixmapValue) : Type 0 where
  pub width : p.width ≡ c.width
  pub height : p.height ≡ c.height
  pub pixels : (i : ℕ) → i < c.width * c.height → pixel_at p.bytes i ≡ unwrap_or (painted_at c i) c.background
