-- Pictures in which some pixels got a colour.
use Rattle.std.specs.Prelude.{◌≡◌, ℕ, ◌*◌, ◌/◌, ◌%◌, ◌<◌, ◌==◌, ◌&&◌, Bool, false, not, nat_le, nat_lt, Option, Some, None, ℤ, pos, if◌then◌else◌}
use Rattle.std.specs.Option.{option_map}
use Rattle.wf_def.specs.declared.color.Color.{Color}
use Rattle.wf_geometry.specs.Exact.{plus, is_less}
use Rattle.wf_paint.specs.Pixmap.{PixmapValue, pixel_at, column_of, row_of}
use Rattle.wf_label.specs.Glyph.{glyph}
use Rattle.wf_label.specs.Ink.{steps, has_bit, row_up}
use Rattle.wf_label.specs.Limit.{cell_width}
use Rattle.wf_label.specs.Placed.{PlacedValue}
use Rattle.wf_label.specs.declared.placed.PixelBox.{PixelBox}

-- the pixels that the function names by column and row, rows counted upward, got the colour, and
-- every other has its old one
pub record IsPixmapColored (shown : ℕ → ℕ → Bool) (color : Color) (old new : PixmapValue) : Type 0 where
  pub width : new.width ≡ old.width
  pub height : new.height ≡ old.height
  pub pixels : (i : ℕ) → i < old.width * old.height →
      pixel_at new.bytes i ≡ (if shown (column_of old.width i) (row_of old.width old.height i) then color else pixel_at old.bytes i)

-- ---- boxes

-- on one axis, the pixel lies in what goes from `first` to before `end`
unfoldable pub is_between : ℤ → ℤ → ℕ → Bool
is_between first end pixel = not (is_less (pos pixel) first) && is_less (pos pixel) end

-- the pixel lies in the box
unfoldable pub is_in : PixelBox → ℕ → ℕ → Bool
is_in b column row = is_between b.left b.right column && is_between b.bottom b.top row

-- the pixel lies in this row, from a column to before another
unfoldable pub is_in_row : ℕ → ℕ → ℕ → ℕ → ℕ → Bool
is_in_row line left right column row = row == line && (nat_le left column && nat_lt column right)

-- on an axis of `most` pixels, those before the cut are those before the side of a box
abbrev pub IsCutBefore : ℕ → ℕ → ℤ → Type 0
IsCutBefore most cut side = (pixel : ℕ) → pixel < most → nat_lt pixel cut ≡ is_less (pos pixel) side

-- ---- bits of labels

-- the bit that a pixel is in on one axis, where it doesn't lie before the first: bits are squares
-- of the scale's size
unfoldable pub bit_at : ℕ → ℤ → ℕ → Option ℕ
bit_at scale first pixel = option_map (λ n. n / scale) (steps first (pos pixel))

abbrev pub is_bit : (ℕ → ℕ → Bool) → Option ℕ → Option ℕ → Bool
is_bit bits None up = false
is_bit bits (Some across) None = false
is_bit bits (Some across) (Some up) = bits across up

-- the pixel lies in one of the bits of a label that the function names, columns of bits counted
-- from its left and rows from its bottom
unfoldable pub is_in_bits : PlacedValue → (ℕ → ℕ → Bool) → ℕ → ℕ → Bool
is_in_bits label bits column row = is_bit bits (bit_at label.scale label.left column) (bit_at label.scale label.bottom row)

-- the box of one bit
unfoldable pub bit_box : PlacedValue → ℕ → ℕ → PixelBox
bit_box label across up = record {
  left = plus label.left (pos (label.scale * across));
  right = plus (plus label.left (pos (label.scale * across))) (pos label.scale);
  bottom = plus label.bottom (pos (label.scale * up));
  top = plus (plus label.bottom (pos (label.scale * up))) (pos label.scale);
}

-- that bit alone
abbrev pub one_bit : ℕ → ℕ → ℕ → ℕ → Bool
one_bit across up k m = k == across && m == up

-- the bits of one row of a character
abbrev pub row_bits : ℕ → ℕ → ℕ → ℕ → ℕ → Bool
row_bits index up row k m = m == up && (k / cell_width == index && has_bit row (k % cell_width))

-- the bits of a character
abbrev pub character_bits : ℕ → ℕ → ℕ → ℕ → Bool
character_bits index c k m = k / cell_width == index && has_bit (row_up (glyph c) m) (k % cell_width)
