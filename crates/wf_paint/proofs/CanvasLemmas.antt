-- A canvas as a picture: the index of a column of a row, and the effect on a canvas in terms of its
-- pixels.
use Rattle.std.proofs.Common.{◌≡◌, ◌≢◌, ℕ, ◌+◌, ◌-◌, ◌*◌, ◌/◌, ◌%◌, ◌^◌, ◌<◌, ◌≤◌, inl, inr, Bool, true, false, nat_lt, List, length, slice_index, replicate, Option, Some, None, is_some, refl, sym, ap, ◌∙◌, arith}
use Rattle.std.specs.Int.{bit_at}
use Rattle.std.specs.Option.{option_or, unwrap_or}
use Rattle.std.proofs.lemmas.List.{get_or-replicate, length-replicate}
use Rattle.std.proofs.lemmas.Nat.Bits.{bit_at_ones}
use Rattle.std.proofs.Math.Nat.{div-lt_iff_lt-mul, div-add-mod, mul_comm}
use Rattle.std.proofs.lemmas.Nat.{div-mul-add, mod-mul-add}
use Rattle.std.proofs.lemmas.Bool.{cases_Bool, cases_lt, cases_eq, false≢true, lt-ltb, le-ltb}
use Rattle.std.proofs.lemmas.Bool.Decides.{nat_tests}
use Rattle.wf_def.specs.declared.color.Color.{Color}
use Rattle.wf_geometry.specs.Limit.{most_pixels}
use Rattle.wf_paint.specs.Pixmap.{column_of, row_of}
use Rattle.wf_paint.specs.Cells.{IsCells, HasFreeBit, IsPlain, IsRangePainted, AreBlocks, IsSized, is_free, painted_in}
use Rattle.wf_paint.specs.Canvas.{CanvasValue, IsCanvas, IsBlank, IsFull, HasFree, IsAlike, IsFinished, IsBoxPainted, painted_at}
use Rattle.wf_paint.specs.Shown.{IsColored, is_in_run, color_where}
use Rattle.wf_paint.proofs.PlainLemmas.{area_most}
use Rattle.wf_paint.proofs.CellsLemmas.{range_keeps, range_was_free, cells_kept, painted_in-free, painted_in-painted}

-- ---- the index of a pixel

-- the index of a pixel of this row, counted from the bottom: that of the row's first pixel plus its
-- column
pub index_in_row : (width height row index : ℕ) → 0 < width → row < height → index < width * height → row_of width height index ≡ row →
    index ≡ (height - 1 - row) * width + column_of width index
unfolding row_of column_of
index_in_row width height row index some within inside same =
    let above : index / width < height = (div-lt_iff_lt-mul some).1 (omega (arith, mul_comm height width)) in
    let from_top : index / width ≡ height - 1 - row = omega arith in
    let whole : width * (index / width) + index % width ≡ index = div-add-mod index width in
    let turned : width * (index / width) ≡ (height - 1 - row) * width = mul_comm width (index / width) ∙ ap (λ (q : ℕ). q * width) from_top in
    omega arith

-- the row and the column of the index `column` after a row's first
pub row_of_index : (width height row column : ℕ) → row < height → column < width → row_of width height ((height - 1 - row) * width + column) ≡ row
unfolding row_of
row_of_index width height row column within inside =
    let from_top : ((height - 1 - row) * width + column) / width ≡ height - 1 - row = div-mul-add (height - 1 - row) width column inside in
    omega arith

pub column_of_index : (width height row column : ℕ) → column < width → column_of width ((height - 1 - row) * width + column) ≡ column
unfolding column_of
column_of_index width height row column inside = mod-mul-add (height - 1 - row) width column inside

-- ---- the run of a row

module _ (row from to column r : ℕ) where
  pub in_run : r ≡ row → from ≤ column → column < to → is_in_run row from to column r ≡ true
  unfolding is_in_run
  in_run same later earlier = grind (arith, nat_tests)

  pub beside_run : r ≢ row → is_in_run row from to column r ≡ false
  unfolding is_in_run
  beside_run apart = grind (arith, nat_tests)

  pub before_run : column < from → is_in_run row from to column r ≡ false
  unfolding is_in_run
  before_run earlier = grind (arith, nat_tests)

  pub after_run : to ≤ column → is_in_run row from to column r ≡ false
  unfolding is_in_run
  after_run later = grind (arith, nat_tests)

color_where-true : (shown : Bool) (color : Color) → shown ≡ true → color_where shown color ≡ Some color
unfolding color_where
color_where-true shown color is = rw is refl

color_where-false : (shown : Bool) (color : Color) → shown ≡ false → color_where shown color ≡ None
unfolding color_where
color_where-false shown color is = rw is refl

pub or_none : (o : Option Color) → option_or o None ≡ o
or_none None = refl
or_none (Some color) = refl

-- the same canvas with other pixels
abbrev pub with_cells : CanvasValue → List ℕ → List ℕ → CanvasValue
with_cells c free bytes = record { width = c.width; height = c.height; background = c.background; bytes = bytes; free = free; known = c.known; blocks = c.blocks }

module _ (c : CanvasValue) (row from to : ℕ) (color : Color) (free bytes : List ℕ) where
  -- how many pixels lie in the rows above
  abbrev left : ℕ
  left = (c.height - 1 - row) * c.width

  -- a range of indices in one row is a run of its columns
  pub run_colored : IsCanvas c → row < c.height → to ≤ c.width → IsRangePainted (left + from) (left + to) color c.free c.bytes free bytes →
      IsColored (is_in_run row from to) color c (with_cells c free bytes)
  unfolding painted_at
  run_colored is within inside range =
      let some : 0 < c.width = omega (arith, is.width_least) in
      let kept : (i : ℕ) → painted_in free bytes i ≡ painted_in c.free c.bytes i → is_in_run row from to (column_of c.width i) (row_of c.width c.height i) ≡ false →
      painted_in free bytes i ≡ option_or (painted_in c.free c.bytes i) (color_where (is_in_run row from to (column_of c.width i) (row_of c.width c.height i)) color) =
      λ i same outside. same ∙ sym (ap (option_or (painted_in c.free c.bytes i)) (color_where-false _ color outside) ∙ or_none (painted_in c.free c.bytes i)) in
      record {
        width = refl;
        height = refl;
        background = refl;
        pixels = λ i area.
            let column : ℕ = column_of c.width i in
            elim (cases_eq (row_of c.width c.height i) row) [
              | inl same ↦
                  let index : i ≡ left + column = index_in_row c.width c.height row i some within area same in
                  elim (cases_lt column from) [
                    | inl earlier ↦ kept i (range.before i (omega arith)) (before_run row from to column _ earlier)
                    | inr later ↦ elim (cases_lt column to) [
                      | inl before ↦ range.painted i (omega arith) (omega arith)
                          ∙ ap (option_or (painted_in c.free c.bytes i)) (sym (color_where-true _ color (in_run row from to column _ same later before)))
                      | inr after ↦ kept i (range.after i (omega arith)) (after_run row from to column _ after)
                    ]
                  ]
              | inr apart ↦
                  let outside : is_in_run row from to column (row_of c.width c.height i) ≡ false = beside_run row from to column _ apart in
                  elim (cases_lt i (left + from)) [
                    | inl earlier ↦ kept i (range.before i earlier) outside
                    | inr later ↦ elim (cases_lt i (left + to)) [
                      | inl before ↦
                          let index : left + (i - left) ≡ i = omega arith in
                          absurd (apart (rw index at (row_of_index c.width c.height row (i - left) within (omega arith))))
                      | inr after ↦ kept i (range.after i after) outside
                    ]
                  ]
            ];
      }

  -- what was painted stays painted
  pub canvas_covered : (start end : ℕ) → IsCanvas c → IsRangePainted start end color c.free c.bytes free bytes → IsCanvas (with_cells c free bytes)
  canvas_covered start end is range = record {
    width_least = is.width_least;
    width_most = is.width_most;
    height_least = is.height_least;
    height_most = is.height_most;
    size = range.bytes_size ∙ is.size;
    words = range.free_size ∙ is.words;
    cells = cells_kept start end color c.free c.bytes free bytes range is.cells;
    unpainted = λ i still. range.unpainted i still ∙ is.unpainted i (range_was_free start end color c.free c.bytes free bytes range i still);
    known_within = omega (arith, is.known_within, range.free_size);
    known_painted = λ i before. range_keeps start end color c.free c.bytes free bytes range i (is.known_painted i before);
    blocks = record {
      size = is.blocks.size;
      painted = λ column row high wide clear. range_keeps start end color c.free c.bytes free bytes range _ (is.blocks.painted column row high wide clear);
    };
  }

  -- no column lies between two in the wrong order
  pub run_empty : to ≤ from → IsColored (is_in_run row from to) color c c
  run_empty none = record {
    width = refl;
    height = refl;
    background = refl;
    pixels = λ i area.
        let column : ℕ = column_of c.width i in
        let outside : is_in_run row from to column (row_of c.width c.height i) ≡ false =
        elim (cases_lt column from) [
          | inl earlier ↦ before_run row from to column _ earlier
          | inr later ↦ after_run row from to column _ (omega arith)
        ] in
        sym (ap (option_or (painted_at c i)) (color_where-false _ color outside) ∙ or_none (painted_at c i));
  }

-- ---- the whole canvas

pub blank_pixels : (width height : ℕ) (background : Color) (bytes free blocks : List ℕ) → ((i : ℕ) → is_free free i ≡ nat_lt i (width * height)) →
    IsBlank width height background (record { width = width; height = height; background = background; bytes = bytes; free = free; known = 0; blocks = blocks })
unfolding painted_at
blank_pixels width height background bytes free blocks all = record {
  wide = refl;
  high = refl;
  under = refl;
  pixels = λ i area. painted_in-free free bytes i (all i ∙ lt-ltb i (width * height) area);
}

-- free pixels are those of the picture, and each has three bytes
pub blank_cells : (area : ℕ) (bytes free : List ℕ) → area ≤ 2 ^ 20 → length bytes ≡ 3 * area → length free ≡ area / 64 + 1 →
    ((i : ℕ) → is_free free i ≡ nat_lt i area) → IsCells free bytes
blank_cells area bytes free small sized words all = record {
  most = omega arith;
  within = λ i is. elim (cases_lt i area) [
    | inl inside ↦ omega arith
    | inr outside ↦ absurd (false≢true (sym (le-ltb i area outside) ∙ sym (all i) ∙ is))
  ];
}

-- no block is known to be painted
none_known : (width height : ℕ) (free blocks : List ℕ) → width ≤ most_pixels → height ≤ most_pixels → blocks ≡ replicate 64 (2 ^ 64 - 1) →
    AreBlocks width height free blocks
none_known width height free blocks wide_most high_most unknown = record {
  size = ap (λ (l : List ℕ). length l) unknown ∙ length-replicate 64 (2 ^ 64 - 1);
  painted = λ column row high wide clear.
      let word : slice_index blocks (row / 16) ≡ 2 ^ 64 - 1 = ap (λ (l : List ℕ). slice_index l (row / 16)) unknown ∙ get_or-replicate 64 (row / 16) (2 ^ 64 - 1) 0 (omega arith) in
      let bit : bit_at (slice_index blocks (row / 16)) (column / 16) ≡ 1 = ap (λ (n : ℕ). bit_at n (column / 16)) word ∙ bit_at_ones 64 (column / 16) (omega arith) in
      absurd (omega (arith, bit, clear));
}

-- a canvas begins as it has to be: all pixels of the picture are free and have the background
pub canvas_begins : (width height : ℕ) (background : Color) (bytes free blocks : List ℕ) → 1 ≤ width → width ≤ most_pixels → 1 ≤ height → height ≤ most_pixels →
    IsPlain (width * height) background bytes → length free ≡ width * height / 64 + 1 → ((i : ℕ) → is_free free i ≡ nat_lt i (width * height)) →
    blocks ≡ replicate 64 (2 ^ 64 - 1) →
    IsCanvas (record { width = width; height = height; background = background; bytes = bytes; free = free; known = 0; blocks = blocks })
canvas_begins width height background bytes free blocks wide_least wide_most high_least high_most plain words all unknown = record {
  width_least = wide_least;
  width_most = wide_most;
  height_least = high_least;
  height_most = high_most;
  size = plain.size;
  words = words;
  cells = blank_cells (width * height) bytes free (area_most width height wide_most high_most) plain.size words all;
  unpainted = λ i is. elim (cases_lt i (width * height)) [
    | inl inside ↦ plain.pixels i inside
    | inr outside ↦ absurd (false≢true (sym (le-ltb i (width * height) outside) ∙ sym (all i) ∙ is))
  ];
  known_within = omega arith;
  known_painted = λ i before. absurd (omega arith);
  blocks = none_known width height free blocks wide_most high_most unknown;
}

-- the same canvas, of whose first words so many are known to have no free pixel
abbrev pub with_known : CanvasValue → ℕ → CanvasValue
with_known c known = record { width = c.width; height = c.height; background = c.background; bytes = c.bytes; free = c.free; known = known; blocks = c.blocks }

-- the same canvas, of which other blocks are known to be painted
abbrev pub with_blocks : CanvasValue → List ℕ → CanvasValue
with_blocks c blocks = record { width = c.width; height = c.height; background = c.background; bytes = c.bytes; free = c.free; known = c.known; blocks = blocks }

module _ (c : CanvasValue) (blocks : List ℕ) where
  pub blocks_alike : IsAlike c (with_blocks c blocks)
  unfolding painted_at
  blocks_alike = record { width = refl; height = refl; background = refl; pixels = λ i area. refl }

  pub canvas_blocks : IsCanvas c → AreBlocks c.width c.height c.free blocks → IsCanvas (with_blocks c blocks)
  canvas_blocks is painted = record {
    width_least = is.width_least;
    width_most = is.width_most;
    height_least = is.height_least;
    height_most = is.height_most;
    size = is.size;
    words = is.words;
    cells = is.cells;
    unpainted = is.unpainted;
    known_within = is.known_within;
    known_painted = is.known_painted;
    blocks = painted;
  }

-- a picture has words for its pixels
pub canvas_sized : (c : CanvasValue) → IsCanvas c → IsSized c.width c.height c.free
canvas_sized c is = record { width_least = is.width_least; width_most = is.width_most; height_least = is.height_least; height_most = is.height_most; words = is.words }

-- what lies in painted blocks of 16 rows is painted
pub box_painted : (c : CanvasValue) (row from to top : ℕ) → top ≡ (row + 16 - 1) / 16 → IsCanvas c → row + 16 ≤ c.height → to ≤ c.width →
    ((column : ℕ) → from ≤ column → column < to → bit_at (slice_index c.blocks (row / 16)) (column / 16) ≡ 0) →
    ((column : ℕ) → from ≤ column → column < to → bit_at (slice_index c.blocks top) (column / 16) ≡ 0) →
    IsBoxPainted row (row + 16) from to c
unfolding painted_at
box_painted c row from to above at is within inside first last = record {
  pixels = λ i area bottom top left right.
      let column : ℕ = column_of c.width i in
      let r : ℕ = row_of c.width c.height i in
      let some : 0 < c.width = omega (arith, is.width_least) in
      let index : i ≡ (c.height - 1 - r) * c.width + column = index_in_row c.width c.height r i some (omega arith) area refl in
      let clear : bit_at (slice_index c.blocks (r / 16)) (column / 16) ≡ 0 = elim (cases_eq (r / 16) (row / 16)) [
        | inl same ↦ rw same (first column left right)
        | inr apart ↦
            let other : r / 16 ≡ above = omega arith in
            rw other (last column left right)
      ] in
      let painted : is_free c.free i ≡ false = rw index (is.blocks.painted column r (omega arith) (omega arith) clear) in
      ap (λ (o : Option Color). is_some o) (painted_in-painted c.free c.bytes i painted);
}

module _ (c : CanvasValue) (known : ℕ) where
  -- to know more changes no pixel
  pub canvas_alike : IsAlike c (with_known c known)
  unfolding painted_at
  canvas_alike = record { width = refl; height = refl; background = refl; pixels = λ i area. refl }

  pub canvas_known : IsCanvas c → known ≤ length c.free → ((i : ℕ) → i < 64 * known → is_free c.free i ≡ false) → IsCanvas (with_known c known)
  canvas_known is within painted = record {
    width_least = is.width_least;
    width_most = is.width_most;
    height_least = is.height_least;
    height_most = is.height_most;
    size = is.size;
    words = is.words;
    cells = is.cells;
    unpainted = is.unpainted;
    known_within = within;
    known_painted = painted;
    blocks = is.blocks;
  }

  -- no word has a free pixel
  pub canvas_full : IsCanvas c → ((i : ℕ) → i < 64 * length c.free → is_free c.free i ≡ false) → IsFull (with_known c known)
  unfolding painted_at
  canvas_full is painted = record {
    pixels = λ i area. ap (λ (o : Option Color). is_some o) (painted_in-painted c.free c.bytes i (painted i (omega (arith, is.words))));
  }

  pub canvas_free : IsCanvas c → (word : ℕ) → HasFreeBit c.free word → HasFree (with_known c known)
  unfolding painted_at
  canvas_free is word some =
      let i : ℕ = 64 * word + some.bit in
      record { free = i; within = omega (arith, is.size, is.cells.within i some.unpainted); unpainted = painted_in-free c.free c.bytes i some.unpainted }

-- a canvas as it stands is its picture: free pixels have the background
pub canvas_finished : (c : CanvasValue) → IsCanvas c → IsFinished c (record { width = c.width; height = c.height; bytes = c.bytes })
unfolding painted_at
canvas_finished c is = record {
  width = refl;
  height = refl;
  pixels = λ i area. elim (cases_Bool (is_free c.free i)) [
    | inl unpainted ↦ is.unpainted i unpainted ∙ sym (ap (λ (o : Option Color). unwrap_or o c.background) (painted_in-free c.free c.bytes i unpainted))
    | inr painted ↦ sym (ap (λ (o : Option Color). unwrap_or o c.background) (painted_in-painted c.free c.bytes i painted))
  ];
}
