-- The pixels of a canvas, index by index: three bytes each, and a bit, 1 where the pixel is free. A
-- word has the bits of 64 pixels.
use Rattle.std.specs.Prelude.{◌≡◌, ◌≢◌, ℕ, ◌+◌, ◌-◌, ◌*◌, ◌/◌, ◌%◌, ◌^◌, ◌<◌, ◌≤◌, ◌==◌, Bool, true, false, List, length, slice_index, Option, Some, None, if◌then◌else◌}
use Rattle.std.specs.Int.{bit_at}
use Rattle.std.specs.Option.{option_or}
use Rattle.wf_def.specs.declared.color.Color.{Color}
use Rattle.wf_geometry.specs.Limit.{most_pixels}
use Rattle.wf_paint.specs.Pixmap.{pixel_at}

-- the pixel is free: its bit is set
unfoldable pub is_free : List ℕ → ℕ → Bool
is_free free index = bit_at (slice_index free (index / 64)) (index % 64) == 1

-- the colour of a pixel that isn't free
unfoldable pub painted_in : List ℕ → List ℕ → ℕ → Option Color
painted_in free bytes index = if is_free free index then None else Some (pixel_at bytes index)

-- each free pixel has three bytes; there are words for at most 2^20 pixels and those after them
pub record IsCells (free bytes : List ℕ) : Type 0 where
  pub most : length free ≤ 2 ^ 14 + 1
  pub within : (i : ℕ) → is_free free i ≡ true → 3 * i + 2 < length bytes

-- one of the pixels of the word is free
pub record HasFreeBit (free : List ℕ) (word : ℕ) : Type 0 where
  pub bit : ℕ
  pub below : bit < 64
  pub unpainted : is_free free (64 * word + bit) ≡ true

-- words for the pixels of a picture of this size
pub record IsSized (width height : ℕ) (free : List ℕ) : Type 0 where
  pub width_least : 1 ≤ width
  pub width_most : width ≤ most_pixels
  pub height_least : 1 ≤ height
  pub height_most : height ≤ most_pixels
  pub words : length free ≡ width * height / 64 + 1

-- a word for each 16 rows, counted from the bottom, with a bit for each 16 columns: no pixel of a
-- block is free whose bit is clear
pub record AreBlocks (width height : ℕ) (free blocks : List ℕ) : Type 0 where
  pub size : length blocks ≡ 64
  pub painted : (column row : ℕ) → row < height → column < width → bit_at (slice_index blocks (row / 16)) (column / 16) ≡ 0 →
      is_free free ((height - 1 - row) * width + column) ≡ false

-- so many pixels, all of one colour
pub record IsPlain (count : ℕ) (color : Color) (bytes : List ℕ) : Type 0 where
  pub size : length bytes ≡ 3 * count
  pub pixels : (i : ℕ) → i < count → pixel_at bytes i ≡ color

-- the pixel's three bytes are the colour's; every other pixel has its old ones
pub record IsPixelWritten (index : ℕ) (color : Color) (old new : List ℕ) : Type 0 where
  pub size : length new ≡ length old
  pub changed : pixel_at new index ≡ color
  pub others : (i : ℕ) → i ≢ index → pixel_at new i ≡ pixel_at old i

-- of the pixels from `first` on, the `count` first ones whose bit is set have the colour; every
-- other pixel has its old one
pub record ArePainted (count first bits : ℕ) (color : Color) (old new : List ℕ) : Type 0 where
  pub size : length new ≡ length old
  pub changed : (k : ℕ) → k < count → bit_at bits k ≡ 1 → pixel_at new (first + k) ≡ color
  pub others : (i : ℕ) → ((k : ℕ) → k < count → bit_at bits k ≡ 1 → i ≢ first + k) → pixel_at new i ≡ pixel_at old i

-- the pixels from `start` on and before `end` are painted: those that were free have the colour;
-- those still free have their old bytes
pub record IsRangePainted (start end : ℕ) (color : Color) (old_free old_bytes free bytes : List ℕ) : Type 0 where
  pub free_size : length free ≡ length old_free
  pub bytes_size : length bytes ≡ length old_bytes
  pub painted : (i : ℕ) → start ≤ i → i < end → painted_in free bytes i ≡ option_or (painted_in old_free old_bytes i) (Some color)
  pub before : (i : ℕ) → i < start → painted_in free bytes i ≡ painted_in old_free old_bytes i
  pub after : (i : ℕ) → end ≤ i → painted_in free bytes i ≡ painted_in old_free old_bytes i
  pub unpainted : (i : ℕ) → is_free free i ≡ true → pixel_at bytes i ≡ pixel_at old_bytes i
