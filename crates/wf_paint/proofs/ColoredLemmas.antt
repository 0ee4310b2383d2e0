-- The effect on a canvas of showing pixels in a colour: by one test after another, by equal tests,
-- by a shape.
use Rattle.std.proofs.Common.{◌≡◌, ℕ, zero, suc, ◌*◌, ◌<◌, ◌||◌, Bool, true, false, Option, Some, None, ℤ, pos, refl, sym, ap, ◌∙◌, arith}
use Rattle.std.specs.Option.{option_or}
use Rattle.wf_def.specs.declared.color.Color.{Color}
use Rattle.wf_geometry.specs.Operation.{ShapeValue, covers, shape_covers, in_color}
use Rattle.wf_paint.specs.Pixmap.{column_of, row_of}
use Rattle.wf_paint.specs.Canvas.{CanvasValue, IsAlike, painted_at}
use Rattle.wf_paint.specs.Shown.{IsShown, IsColored, color_where, seen}

-- ---- one pixel

left_free : (painted : Option Color) (color : Color) → option_or painted (color_where false color) ≡ painted
unfolding color_where
left_free None color = refl
left_free (Some c) color = refl

either_way : (painted : Option Color) (first second : Bool) (color : Color) →
    option_or (option_or painted (color_where first color)) (color_where second color) ≡ option_or painted (color_where (first || second) color)
unfolding color_where
either_way None true second color = refl
either_way None false second color = refl
either_way (Some c) first second color = refl

-- ---- indices in a canvas

pub column_within : (width height i : ℕ) → i < width * height → column_of width i < width
unfolding column_of
column_within zero height i within = absurd (omega arith)
column_within (suc width) height i within = omega arith

pub row_within : (width height i : ℕ) → i < width * height → row_of width height i < height
unfolding row_of
row_within width zero i within = absurd (omega arith)
row_within width (suc height) i within = omega arith

-- ---- a canvas

-- where no pixel is shown the canvas is unchanged
pub IsColored-none : (shown : ℕ → ℕ → Bool) (color : Color) (c : CanvasValue) →
    ((column row : ℕ) → column < c.width → row < c.height → shown column row ≡ false) → IsColored shown color c c
IsColored-none shown color c none = record {
  width = refl;
  height = refl;
  background = refl;
  pixels = λ i within.
      let column = column_of c.width i in
      let row = row_of c.width c.height i in
      sym (ap (λ (b : Bool). option_or (painted_at c i) (color_where b color)) (none column row (column_within c.width c.height i within) (row_within c.width c.height i within))
      ∙ left_free (painted_at c i) color);
}

-- what is shown by one test and then by another is shown by either
pub IsColored-either : (first second : ℕ → ℕ → Bool) (color : Color) (a b c : CanvasValue) → IsColored first color a b → IsColored second color b c →
    IsColored (λ column row. first column row || second column row) color a c
IsColored-either first second color a b c before after = record {
  width = after.width ∙ before.width;
  height = after.height ∙ before.height;
  background = after.background ∙ before.background;
  pixels = λ i within.
      let column = column_of a.width i in
      let row = row_of a.width a.height i in
      let wide = before.width in
      let high = before.height in
      let same : second (column_of b.width i) (row_of b.width b.height i) ≡ second column row = cc in
      after.pixels i (rw (before.width, before.height) within)
      ∙ ap (λ (shown : Bool). option_or (painted_at b i) (color_where shown color)) same
      ∙ ap (λ (o : Option Color). option_or o (color_where (second column row) color)) (before.pixels i within)
      ∙ either_way (painted_at a i) (first column row) (second column row) color;
}

-- tests that agree on the picture show the same
pub IsColored-alike : (shown other : ℕ → ℕ → Bool) (color : Color) (a b : CanvasValue) →
    ((column row : ℕ) → column < a.width → row < a.height → other column row ≡ shown column row) → IsColored shown color a b → IsColored other color a b
IsColored-alike shown other color a b same colored = record {
  width = colored.width;
  height = colored.height;
  background = colored.background;
  pixels = λ i within.
      let column = column_of a.width i in
      let row = row_of a.width a.height i in
      colored.pixels i within
      ∙ ap (λ (t : Bool). option_or (painted_at a i) (color_where t color)) (sym (same column row (column_within a.width a.height i within) (row_within a.width a.height i within)));
}

-- they are shown on any canvas with the same pixels
pub IsColored-after : (shown : ℕ → ℕ → Bool) (color : Color) (a b c : CanvasValue) → IsColored shown color a b → IsAlike b c → IsColored shown color a c
IsColored-after shown color a b c colored alike = record {
  width = alike.width ∙ colored.width;
  height = alike.height ∙ colored.height;
  background = alike.background ∙ colored.background;
  pixels = λ i within. alike.pixels i (rw (colored.width, colored.height) within) ∙ colored.pixels i within;
}

-- ---- a shape in a colour

pub shape_seen : (shape : ShapeValue) (color : Color) (column row : ℤ) → seen (in_color shape (Some color)) column row ≡ color_where (shape_covers shape column row) color
unfolding seen covers color_where
shape_seen shape color column row = by_test (shape_covers shape column row) refl where
  by_test : (b : Bool) → shape_covers shape column row ≡ b → seen (in_color shape (Some color)) column row ≡ color_where b color
  by_test true covered = rw covered refl
  by_test false left = rw left refl

-- the pixels that a shape covers
abbrev pub covered_by : ShapeValue → ℕ → ℕ → Bool
covered_by shape column row = shape_covers shape (pos column) (pos row)

-- where they are shown in the colour, the shape is shown
pub IsShown-from_colored : (shape : ShapeValue) (color : Color) (a b : CanvasValue) → IsColored (covered_by shape) color a b → IsShown (in_color shape (Some color)) a b
IsShown-from_colored shape color a b colored = record {
  width = colored.width;
  height = colored.height;
  background = colored.background;
  pixels = λ i within.
      let column = pos (column_of a.width i) in
      let row = pos (row_of a.width a.height i) in
      colored.pixels i within ∙ ap (option_or (painted_at a i)) (sym (shape_seen shape color column row));
}
