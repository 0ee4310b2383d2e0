-- The pixels that letters ink, bit by bit; they lie in their labels' boxes.
use Rattle.std.specs.Prelude.{◌≡◌, ◌↔◌, ℕ, ◌+◌, ◌-◌, ◌*◌, ◌/◌, ◌%◌, ◌^◌, ◌<◌, true, false, List, slice_get, slice_index, Some, pos}
use Rattle.std.specs.List.{All}
use Rattle.std.specs.Str.{chars}
use Rattle.wf_paint.specs.Pixmap.{PixmapValue, pixel_at, column_of, row_of}
use Rattle.wf_label.specs.Colored.{bit_box, is_in}
use Rattle.wf_label.specs.PixelBox.{box_of}
use Rattle.wf_label.specs.Glyph.{glyph}
use Rattle.wf_label.specs.Ink.{IsInked, inks}
use Rattle.wf_label.specs.Limit.{cell_width, glyph_height, glyph_width}
use Rattle.wf_label.specs.Placed.{PlacedValue}
use Rattle.wf_label.specs.Taken.{is_taken}

-- The pixel lies in the square of a set bit: of the character at this index of the text (`index`),
-- in this one of its glyph's rows, counted from the top (`line`), at this one of the row's bits,
-- counted from the left (`across`). The glyph leaves the last column and the lowest row of the
-- character's cell free.
pub record IsInSetBit (label : PlacedValue) (column row : ℕ) : Type 0 where
  pub index : ℕ
  pub character : ℕ
  pub stands : slice_get (chars label.text) index ≡ Some character
  pub line : ℕ
  pub high : line < glyph_height
  pub across : ℕ
  pub wide : across < glyph_width
  pub set : slice_index (glyph character) line / 2 ^ (glyph_width - 1 - across) % 2 ≡ 1
  pub inside : is_in (bit_box label (cell_width * index + across) (glyph_height - line)) column row ≡ true

-- a label of positive scale inks exactly the pixels in the squares of its set bits
abbrev pub LettersInkTheirSetBits : Type 0
LettersInkTheirSetBits = (label : PlacedValue) (column row : ℕ) → 0 < label.scale → (inks label (pos column) (pos row) ≡ true) ↔ IsInSetBit label column row

-- so it inks none outside its box
abbrev pub LettersStayInTheirBox : Type 0
LettersStayInTheirBox = (label : PlacedValue) (column row : ℕ) → 0 < label.scale → inks label (pos column) (pos row) ≡ true → is_in (box_of label) column row ≡ true

-- when labels are drawn over a picture, pixels outside all their boxes keep their colour
abbrev pub PixelsOutsideBoxesStay : Type 0
PixelsOutsideBoxesStay = (labels : List PlacedValue) (old new : PixmapValue) → All (λ label. 0 < label.scale) labels → IsInked labels old new →
    (i : ℕ) → i < old.width * old.height →
    is_taken labels (column_of old.width i) (row_of old.width old.height i) ≡ false → pixel_at new.bytes i ≡ pixel_at old.bytes i
