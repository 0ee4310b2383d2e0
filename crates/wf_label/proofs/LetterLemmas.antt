-- Letters bit by bit: the pixels that a label inks lie in squares of set bits, and so in its box.
use Rattle.std.proofs.Common.{◌≡◌, ℕ, zero, suc, ◌+◌, ◌-◌, ◌*◌, ◌/◌, ◌%◌, ◌^◌, ◌<◌, ◌≤◌, ◌==◌, Bool, true, false, ◌&&◌, List, [], ◌∷◌, length, All, Option, Some, None, is_some, slice_get, slice_index, ℤ, pos, inl, inr, refl, sym, ap, ◌∙◌, true≢false, arith}
use Rattle.std.specs.Prelude.{nat_le}
use Rattle.std.specs.Str.{chars}
use Rattle.std.proofs.Math.Nat.{mul-le-mul_left, div-one}
use Rattle.std.proofs.lemmas.Bool.{and_from, and_parts, cases_lt, eq-eqb, eqb-true, false_from_ne_true, leb-true, le-leb, or_parts}
use Rattle.std.proofs.lemmas.Int.{ints}
use Rattle.std.proofs.lemmas.List.Elements.{All-head, All-tail}
use Rattle.std.proofs.lemmas.Option.{slice_get_past}
use Rattle.wf_def.specs.declared.color.Color.{Color}
use Rattle.wf_geometry.specs.Exact.{plus, is_less}
use Rattle.wf_paint.specs.Pixmap.{pixel_at, column_of, row_of}
use Rattle.wf_label.specs.Colored.{is_between, is_in, bit_at, is_bit, is_in_bits, bit_box, one_bit}
use Rattle.wf_label.specs.PixelBox.{box_of, text_height, text_width}
use Rattle.wf_label.specs.Glyph.{glyph}
use Rattle.wf_label.specs.Ink.{has_bit, ink_of, inked, inks, inks_bit, row_up}
use Rattle.wf_label.specs.Limit.{cell_height, cell_width, glyph_height, glyph_width}
use Rattle.wf_label.specs.Letters.{IsInSetBit, LettersInkTheirSetBits, LettersStayInTheirBox, PixelsOutsideBoxesStay}
use Rattle.wf_label.specs.Placed.{PlacedValue}
use Rattle.wf_label.specs.Taken.{is_taken}
use Rattle.wf_label.proofs.BitLemmas.{in_one_bit, inks_in_bits, no_more_bits, outside_empty, cell_split, text_bits}
use Rattle.wf_label.proofs.InkLemmas.{inked-first}

-- ---- one bit of a glyph

-- a bit of a row, by its power of two
bit_value : (row across : ℕ) → across < glyph_width → has_bit row across ≡ (row / 2 ^ (2 - across) % 2 == 1)
unfolding has_bit
bit_value row zero inside = refl
bit_value row (suc zero) inside = refl
bit_value row (suc (suc zero)) inside = ap (λ n. n % 2 == 1) (sym (div-one row))
bit_value row (suc (suc (suc n))) inside = absurd (omega arith)

row_up-inside : (rows : List ℕ) (up : ℕ) → 1 ≤ up → up ≤ glyph_height → row_up rows up ≡ slice_index rows (glyph_height - up)
unfolding row_up
row_up-inside rows up least most =
    let inside : (nat_le 1 up && nat_le up glyph_height) ≡ true = and_from (nat_le 1 up) (nat_le up glyph_height) (le-leb 1 up least) (le-leb up glyph_height most) in
    rw inside refl

-- a set bit lies in one of the glyph's five rows
within_rows : (c up across : ℕ) → has_bit (row_up (glyph c) up) across ≡ true → (1 ≤ up) × (up ≤ glyph_height)
within_rows c up across set = by_test (nat_le 1 up && nat_le up glyph_height) refl where
  by_test : (b : Bool) → (nat_le 1 up && nat_le up glyph_height) ≡ b → (1 ≤ up) × (up ≤ glyph_height)
  by_test true inside =
      let parts = and_parts (nat_le 1 up) (nat_le up glyph_height) inside in
      (leb-true 1 up parts.0, leb-true up glyph_height parts.1)
  by_test false outside = absurd (true≢false (sym set ∙ outside_empty c up across outside))

-- and in one of its three columns
within_columns : (row across : ℕ) → has_bit row across ≡ true → across < glyph_width
within_columns row across set = elim (cases_lt across glyph_width) [
  | inl inside ↦ inside
  | inr far ↦ absurd (true≢false (sym set ∙ no_more_bits row across far))
]

-- the index of a character lies within the text
within_text : (text : List ℕ) (index c : ℕ) → slice_get text index ≡ Some c → index < length text
within_text text index c is = elim (cases_lt index (length text)) [
  | inl inside ↦ inside
  | inr past ↦ absurd (true≢false (ap is_some (sym is ∙ slice_get_past text index past)))
]

-- ---- one label

module _ (label : PlacedValue) (column row : ℕ) (some : 0 < label.scale) where
  -- the pixel lies in the square of its bit
  in_its_bit : (a b : ℕ) → bit_at label.scale label.left column ≡ Some a → bit_at label.scale label.bottom row ≡ Some b → is_in (bit_box label a b) column row ≡ true
  unfolding is_in_bits
  in_its_bit a b wide high =
      let here : is_bit (one_bit a b) (bit_at label.scale label.left column) (bit_at label.scale label.bottom row) ≡ true =
      rw (wide, high) (and_from (a == a) (b == b) (eq-eqb a a refl) (eq-eqb b b refl)) in
      sym (in_one_bit label a b column row some) ∙ here

  set_bit : (a b : ℕ) (found : Option ℕ) → slice_get (chars label.text) (a / cell_width) ≡ found → inks_bit found (a % cell_width) b ≡ true → is_in (bit_box label a b) column row ≡ true → IsInSetBit label column row
  set_bit a b None is never inside = absurd (true≢false (sym never))
  set_bit a b (Some c) is set inside =
      let rows = within_rows c b (a % cell_width) set in
      let columns : a % cell_width < glyph_width = within_columns (row_up (glyph c) b) (a % cell_width) set in
      let line : row_up (glyph c) b ≡ slice_index (glyph c) (glyph_height - b) = row_up-inside (glyph c) b rows.0 rows.1 in
      let value : (slice_index (glyph c) (glyph_height - b) / 2 ^ (2 - a % cell_width) % 2 == 1) ≡ true =
      sym (bit_value (slice_index (glyph c) (glyph_height - b)) (a % cell_width) columns) ∙ ap (λ (r : ℕ). has_bit r (a % cell_width)) (sym line) ∙ set in
      let across : cell_width * (a / cell_width) + a % cell_width ≡ a = cell_split a in
      let up : glyph_height - (glyph_height - b) ≡ b = omega (arith, rows.1) in
      record {
        index = a / cell_width;
        character = c;
        stands = is;
        line = glyph_height - b;
        high = omega (arith, rows.0);
        across = a % cell_width;
        wide = columns;
        set = eqb-true _ 1 value;
        inside = rw (across, up) inside;
      }

  letter_bit : inks label (pos column) (pos row) ≡ true → IsInSetBit label column row
  unfolding is_in_bits
  letter_bit inked_here = by_bits (bit_at label.scale label.left column) (bit_at label.scale label.bottom row) refl refl (sym (inks_in_bits label column row some) ∙ inked_here) where
    by_bits : (x y : Option ℕ) → bit_at label.scale label.left column ≡ x → bit_at label.scale label.bottom row ≡ y → is_bit (text_bits (chars label.text)) x y ≡ true → IsInSetBit label column row
    by_bits None y wide high never = absurd (true≢false (sym never))
    by_bits (Some a) None wide high never = absurd (true≢false (sym never))
    by_bits (Some a) (Some b) wide high set = set_bit a b (slice_get (chars label.text) (a / cell_width)) refl set (in_its_bit a b wide high)

  module _ (bit : IsInSetBit label column row) where
    -- the text sets this bit
    bit_set : text_bits (chars label.text) (cell_width * bit.index + bit.across) (glyph_height - bit.line) ≡ true
    bit_set =
        let index : (cell_width * bit.index + bit.across) / cell_width ≡ bit.index = omega (arith, bit.wide) in
        let across : (cell_width * bit.index + bit.across) % cell_width ≡ bit.across = omega (arith, bit.wide) in
        let line : glyph_height - (glyph_height - bit.line) ≡ bit.line = omega (arith, bit.high) in
        let row_is : row_up (glyph bit.character) (glyph_height - bit.line) ≡ slice_index (glyph bit.character) bit.line =
        row_up-inside (glyph bit.character) (glyph_height - bit.line) (omega (arith, bit.high)) (omega arith) ∙ ap (slice_index (glyph bit.character)) line in
        let value : has_bit (slice_index (glyph bit.character) bit.line) bit.across ≡ true =
        bit_value (slice_index (glyph bit.character) bit.line) bit.across bit.wide ∙ eq-eqb _ 1 bit.set in
        rw (index, across, bit.stands) (ap (λ (r : ℕ). has_bit r bit.across) row_is ∙ value)

    bit_inks : inks label (pos column) (pos row) ≡ true
    unfolding is_in_bits
    bit_inks = inks_in_bits label column row some
        ∙ by_bits (bit_at label.scale label.left column) (bit_at label.scale label.bottom row) (in_one_bit label (cell_width * bit.index + bit.across) (glyph_height - bit.line) column row some ∙ bit.inside) where
          by_bits : (x y : Option ℕ) → is_bit (one_bit (cell_width * bit.index + bit.across) (glyph_height - bit.line)) x y ≡ true → is_bit (text_bits (chars label.text)) x y ≡ true
          by_bits None y never = absurd (true≢false (sym never))
          by_bits (Some a) None never = absurd (true≢false (sym never))
          by_bits (Some a) (Some b) one =
              let parts = and_parts (a == cell_width * bit.index + bit.across) (b == glyph_height - bit.line) one in
              let across : a ≡ cell_width * bit.index + bit.across = eqb-true a (cell_width * bit.index + bit.across) parts.0 in
              let up : b ≡ glyph_height - bit.line = eqb-true b (glyph_height - bit.line) parts.1 in
              rw (across, up) bit_set

pub letters_ink_their_set_bits : LettersInkTheirSetBits
letters_ink_their_set_bits label column row some = (letter_bit label column row some, bit_inks label column row some)

-- ---- its box

-- a position in a part of a span lies in the span
in_wider_span : (first : ℤ) (from size whole k : ℕ) → from + size ≤ whole → is_between (plus first (pos from)) (plus (plus first (pos from)) (pos size)) k ≡ true → is_between first (plus first (pos whole)) k ≡ true
unfolding is_between is_less plus
in_wider_span first from size whole k fits inside = grind (arith, ints)

-- the squares of the bits up to this one fit into those of all bits
bits_fit : (scale bit bits : ℕ) → bit < bits → scale * bit + scale ≤ scale * bits
bits_fit scale bit bits within = omega (arith, mul-le-mul_left {m = bit + 1} {n = bits} scale (omega arith))

set_bit_in_box : (label : PlacedValue) (column row : ℕ) → IsInSetBit label column row → is_in (box_of label) column row ≡ true
unfolding is_in bit_box box_of text_width text_height
set_bit_in_box label column row bit =
    let a : ℕ = cell_width * bit.index + bit.across in
    let b : ℕ = glyph_height - bit.line in
    let size : ℕ = length (chars label.text) in
    let index : bit.index < size = within_text (chars label.text) bit.index bit.character bit.stands in
    let parts = and_parts
    (is_between (plus label.left (pos (label.scale * a))) (plus (plus label.left (pos (label.scale * a))) (pos label.scale)) column)
    (is_between (plus label.bottom (pos (label.scale * b))) (plus (plus label.bottom (pos (label.scale * b))) (pos label.scale)) row) bit.inside in
    let wide : label.scale * a + label.scale ≤ cell_width * label.scale * size = omega (arith, bits_fit label.scale a (cell_width * size) (omega (arith, bit.wide, index))) in
    let high : label.scale * b + label.scale ≤ cell_height * label.scale = omega (arith, bits_fit label.scale b cell_height (omega arith)) in
    and_from _ _
    (in_wider_span label.left (label.scale * a) label.scale (cell_width * label.scale * size) column wide parts.0)
    (in_wider_span label.bottom (label.scale * b) label.scale (cell_height * label.scale) row high parts.1)

pub letters_stay_in_their_box : LettersStayInTheirBox
letters_stay_in_their_box label column row some inked_here = set_bit_in_box label column row (letter_bit label column row some inked_here)

-- ---- pictures

-- a pixel outside all boxes isn't inked
not_inked : (labels : List PlacedValue) (below : Color) (column row : ℕ) → All (λ label. 0 < label.scale) labels → is_taken labels column row ≡ false → inked labels below (pos column) (pos row) ≡ below
unfolding is_taken inked ink_of
not_inked [] below column row all free = refl
not_inked (label ∷ labels) below column row all free =
    let some : 0 < label.scale = All-head (λ (l : PlacedValue). 0 < l.scale) label labels all in
    let parts = or_parts (is_in (box_of label) column row) (is_taken labels column row) free in
    let none : inks label (pos column) (pos row) ≡ false =
    false_from_ne_true (inks label (pos column) (pos row)) (λ here. true≢false (sym (letters_stay_in_their_box label column row some here) ∙ parts.0)) in
    inked-first label labels below (pos column) (pos row)
    ∙ rw none (not_inked labels below column row (All-tail (λ (l : PlacedValue). 0 < l.scale) label labels all) parts.1)

pub pixels_outside_boxes_stay : PixelsOutsideBoxesStay
pixels_outside_boxes_stay labels old new some drawn i within free =
    drawn.pixels i within ∙ not_inked labels (pixel_at old.bytes i) (column_of old.width i) (row_of old.width old.height i) some free
