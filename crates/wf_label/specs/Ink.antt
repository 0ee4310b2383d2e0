-- Which pixels the letters of labels ink, and in which colour.
use Rattle.std.specs.Prelude.{◌≡◌, ℕ, ◌-◌, ◌*◌, ◌/◌, ◌%◌, ◌<◌, ◌==◌, ◌&&◌, Bool, false, nat_le, List, slice_get, slice_index, Option, Some, None, ℤ, pos, nat_abs, if◌then◌else◌}
use Rattle.std.specs.List.{find}
use Rattle.std.specs.Option.{option_map, unwrap_or}
use Rattle.std.specs.Str.{chars}
use Rattle.wf_def.specs.declared.color.Color.{Color}
use Rattle.wf_geometry.specs.Exact.{difference, is_less}
use Rattle.wf_paint.specs.Pixmap.{PixmapValue, pixel_at, column_of, row_of}
use Rattle.wf_label.specs.Glyph.{glyph}
use Rattle.wf_label.specs.Limit.{cell_width, glyph_height}
use Rattle.wf_label.specs.Placed.{PlacedValue}

-- ---- one letter

-- the first columns of a cell hold the bits of a row, the highest first
unfoldable pub has_bit : ℕ → ℕ → Bool
has_bit row column =
    if column == 0 then row / 4 % 2 == 1 else
    if column == 1 then row / 2 % 2 == 1 else
    if column == 2 then row % 2 == 1 else
    false

-- all rows of a cell but the lowest hold a glyph's rows; rows of a cell are counted upward, from 0
unfoldable pub row_up : List ℕ → ℕ → ℕ
row_up rows up = if nat_le 1 up && nat_le up glyph_height then slice_index rows (glyph_height - up) else 0

-- the character inks the bit of its cell in this column, and this many rows up; after the end of
-- the text there is none
abbrev pub inks_bit : Option ℕ → ℕ → ℕ → Bool
inks_bit None column up = false
inks_bit (Some c) column up = has_bit (row_up (glyph c) up) column

-- ---- one label

-- the text inks the pixel that lies `right` columns to the right of its first and `up` rows above:
-- each bit is a square of the scale's size
unfoldable pub inks_at : ℕ → List ℕ → ℕ → ℕ → Bool
inks_at scale text right up =
    inks_bit (slice_get (chars text) (right / (cell_width * scale))) (right % (cell_width * scale) / scale) (up / scale)

-- how far a pixel lies from a first one, where it doesn't lie before it
unfoldable pub steps : ℤ → ℤ → Option ℕ
steps first pixel = if is_less pixel first then None else Some (nat_abs (difference pixel first))

abbrev pub inks_steps : PlacedValue → Option ℕ → Option ℕ → Bool
inks_steps label None up = false
inks_steps label (Some right) None = false
inks_steps label (Some right) (Some up) = inks_at label.scale label.text right up

-- a letter of the label inks the pixel in the column and row, rows counted upward
unfoldable pub inks : PlacedValue → ℤ → ℤ → Bool
inks label column row = inks_steps label (steps label.left column) (steps label.bottom row)

-- ---- all labels

-- the colour of the first label that inks the pixel
unfoldable pub ink_of : List PlacedValue → ℤ → ℤ → Option Color
ink_of labels column row = option_map (λ label. label.color) (find (λ label. inks label column row) labels)

-- the pixel's colour over one that it had
unfoldable pub inked : List PlacedValue → Color → ℤ → ℤ → Color
inked labels below column row = unwrap_or (ink_of labels column row) below

-- the labels' letters were drawn over the old picture, and nothing else has changed
pub record IsInked (labels : List PlacedValue) (old new : PixmapValue) : Type 0 where
  pub width : new.width ≡ old.width
  pub height : new.height ≡ old.height
  pub pixels : (i : ℕ) → i < old.width * old.height →
      pixel_at new.bytes i ≡ inked labels (pixel_at old.bytes i) (pos (column_of old.width i)) (pos (row_of old.width old.height i))
