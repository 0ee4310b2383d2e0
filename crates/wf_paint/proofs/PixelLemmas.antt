-- The effect on a picture of a write to the three bytes of a pixel.
use Rattle.std.proofs.Common.{◌≡◌, ◌≢◌, ℕ, ◌+◌, ◌*◌, ◌<◌, List, length, get_or, set, refl, ◌∙◌, arith}
use Rattle.std.proofs.lemmas.List.{get_or-set_same, get_or-set_other, length-set}
use Rattle.wf_def.specs.declared.color.Color.{Color}
use Rattle.wf_paint.specs.Pixmap.{PixmapValue, IsSet, pixel_at}
use Rattle.wf_paint.specs.Cells.{IsPixelWritten}

pub color-same : (a b : Color) → a.r ≡ b.r → a.g ≡ b.g → a.b ≡ b.b → a ≡ b
color-same a b red green blue i = record { r = red i; g = green i; b = blue i }

-- the bytes with the three from this index on replaced
abbrev pub with_pixel : List ℕ → ℕ → Color → List ℕ
with_pixel bytes start color = set (set (set bytes start color.r) (start + 1) color.g) (start + 2) color.b

module _ (bytes : List ℕ) (start : ℕ) (color : Color) where
  red : start + 2 < length bytes → get_or (with_pixel bytes start color) start 0 ≡ color.r
  red within =
      get_or-set_other (set (set bytes start color.r) (start + 1) color.g) (start + 2) start color.b 0 (omega arith)
      ∙ get_or-set_other (set bytes start color.r) (start + 1) start color.g 0 (omega arith)
      ∙ get_or-set_same bytes start color.r 0 (omega arith)

  green : start + 2 < length bytes → get_or (with_pixel bytes start color) (start + 1) 0 ≡ color.g
  green within =
      get_or-set_other (set (set bytes start color.r) (start + 1) color.g) (start + 2) (start + 1) color.b 0 (omega arith)
      ∙ get_or-set_same (set bytes start color.r) (start + 1) color.g 0 (omega (arith, length-set bytes start color.r))

  blue : start + 2 < length bytes → get_or (with_pixel bytes start color) (start + 2) 0 ≡ color.b
  blue within = get_or-set_same (set (set bytes start color.r) (start + 1) color.g) (start + 2) color.b 0
      (omega (arith, length-set bytes start color.r, length-set (set bytes start color.r) (start + 1) color.g))

  other : (k : ℕ) → k ≢ start → k ≢ start + 1 → k ≢ start + 2 → get_or (with_pixel bytes start color) k 0 ≡ get_or bytes k 0
  other k first second third =
      get_or-set_other (set (set bytes start color.r) (start + 1) color.g) (start + 2) k color.b 0 third
      ∙ get_or-set_other (set bytes start color.r) (start + 1) k color.g 0 second
      ∙ get_or-set_other bytes start k color.r 0 first

-- the pixel has the colour
pub pixel_at-written : (bytes : List ℕ) (index : ℕ) (color : Color) → 3 * index + 2 < length bytes → pixel_at (with_pixel bytes (3 * index) color) index ≡ color
unfolding pixel_at
pixel_at-written bytes index color within = color-same _ color (red bytes (3 * index) color within) (green bytes (3 * index) color within) (blue bytes (3 * index) color within)

-- every other pixel has its old one
pub pixel_at-other : (bytes : List ℕ) (index : ℕ) (color : Color) (i : ℕ) → i ≢ index → pixel_at (with_pixel bytes (3 * index) color) i ≡ pixel_at bytes i
unfolding pixel_at
pixel_at-other bytes index color i apart = color-same _ _
    (other bytes (3 * index) color (3 * i) (omega arith) (omega arith) (omega arith))
    (other bytes (3 * index) color (3 * i + 1) (omega arith) (omega arith) (omega arith))
    (other bytes (3 * index) color (3 * i + 2) (omega arith) (omega arith) (omega arith))

-- only the bytes of this pixel change
pub pixel_written : (bytes : List ℕ) (index : ℕ) (color : Color) → 3 * index + 2 < length bytes → IsPixelWritten index color bytes (with_pixel bytes (3 * index) color)
pixel_written bytes index color within = record {
  size = simp length-set;
  changed = pixel_at-written bytes index color within;
  others = λ i apart. pixel_at-other bytes index color i apart;
}

-- the picture with these three bytes written is the picture with the pixel set
pub pixel_set : (p : PixmapValue) (index : ℕ) (color : Color) (bytes : List ℕ) → IsPixelWritten index color p.bytes bytes →
    IsSet index color p (record { width = p.width; height = p.height; bytes = bytes })
pixel_set p index color bytes written = record {
  width = refl;
  height = refl;
  changed = written.changed;
  others = λ i inside apart. written.others i apart;
}
