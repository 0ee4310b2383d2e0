-- Pixels that got a colour: one write after another, row after row, bit after bit.
use Rattle.std.proofs.Common.{◌≡◌, ℕ, zero, suc, ◌+◌, ◌-◌, ◌*◌, ◌/◌, ◌%◌, ◌<◌, ◌≤◌, ◌==◌, max, Bool, true, false, not, ◌&&◌, ◌||◌, cond, ℤ, inl, inr, refl, sym, ap, ◌∙◌, arith}
use Rattle.std.specs.Prelude.{nat_le, nat_lt}
use Rattle.std.proofs.lemmas.Bool.{cases_eq, cases_order}
use Rattle.std.proofs.lemmas.Bool.Decides.{nat_tests}
use Rattle.std.proofs.lemmas.Nat.{div_below}
use Rattle.std.proofs.Math.Nat.{mul-le-mul, mul_comm, mul-zero, zero-mul}
use Rattle.wf_def.specs.declared.color.Color.{Color}
use Rattle.wf_paint.specs.Pixmap.{PixmapValue, IsSet, pixel_at, column_of, row_of}
use Rattle.wf_label.specs.Colored.{IsPixmapColored, IsCutBefore, is_between, is_in, is_in_row}
use Rattle.wf_label.specs.declared.placed.PixelBox.{PixelBox}

-- ---- one after another

cond_or : {X : Type 0} (f g : Bool) (x y : X) → cond g x (cond f x y) ≡ cond (f || g) x y
cond_or true true x y = refl
cond_or true false x y = refl
cond_or false true x y = refl
cond_or false false x y = refl

-- each pixel has a column and a row of the picture
pixel_in : (width height i : ℕ) → i < width * height → (column_of width i < width) × (row_of width height i < height)
unfolding column_of row_of
pixel_in zero height i within = absurd (omega (arith, zero-mul height))
pixel_in (suc w) zero i within = absurd (omega (arith, mul-zero (suc w)))
pixel_in (suc w) (suc h) i within = (omega arith, omega arith)

module _ (color : Color) (a b c : PixmapValue) where
  pub IsColored-none : (shown : ℕ → ℕ → Bool) → ((k m : ℕ) → shown k m ≡ false) → IsPixmapColored shown color a a
  IsColored-none shown none = record { width = refl; height = refl; pixels = λ i within. rw none refl }

  -- the same pixels, named by another function
  pub IsColored-same : (first shown : ℕ → ℕ → Bool) → ((k m : ℕ) → k < a.width → m < a.height → shown k m ≡ first k m) → IsPixmapColored first color a b → IsPixmapColored shown color a b
  IsColored-same first shown same is = record {
    width = is.width;
    height = is.height;
    pixels = λ i within.
        let inside = pixel_in a.width a.height i within in
        rw (same _ _ inside.0 inside.1) (is.pixels i within);
  }

  -- the pixels that got the colour first, or then
  pub IsColored-next : (first second shown : ℕ → ℕ → Bool) → ((k m : ℕ) → k < a.width → m < a.height → shown k m ≡ (first k m || second k m)) →
      IsPixmapColored first color a b → IsPixmapColored second color b c → IsPixmapColored shown color a c
  IsColored-next first second shown either one two = record {
    width = two.width ∙ one.width;
    height = two.height ∙ one.height;
    pixels = λ i within.
        let k = column_of a.width i in
        let m = row_of a.width a.height i in
        let inside = pixel_in a.width a.height i within in
        let here : pixel_at c.bytes i ≡ cond (second k m) color (pixel_at b.bytes i) = rw (one.width, one.height) at (two.pixels i (rw (one.width, one.height) within)) in
        here ∙ ap (λ (below : Color). cond (second k m) color below) (one.pixels i within)
        ∙ cond_or (first k m) (second k m) color (pixel_at a.bytes i)
        ∙ ap (λ (shows : Bool). cond shows color (pixel_at a.bytes i)) (sym (either k m inside.0 inside.1));
  }

-- ---- a row

-- the pixels from one index to before another got the colour
pub record IsRun (start end : ℕ) (color : Color) (old new : PixmapValue) : Type 0 where
  pub width : new.width ≡ old.width
  pub height : new.height ≡ old.height
  pub pixels : (i : ℕ) → i < old.width * old.height → pixel_at new.bytes i ≡ cond (nat_le start i && nat_lt i end) color (pixel_at old.bytes i)

pub IsRun-none : (start end : ℕ) (color : Color) (a : PixmapValue) → end ≤ start → IsRun start end color a a
IsRun-none start end color a none = record {
  width = refl;
  height = refl;
  pixels = λ i within. let out : (nat_le start i && nat_lt i end) ≡ false = grind (arith, nat_tests) in rw out refl;
}

pub IsRun-more : (start end : ℕ) (color : Color) (a b c : PixmapValue) → start ≤ end → end < a.width * a.height → IsRun start end color a b → IsSet end color b c → IsRun start (end + 1) color a c
IsRun-more start end color a b c some here before set_here = record {
  width = set_here.width ∙ before.width;
  height = set_here.height ∙ before.height;
  pixels = each;
} where
  each : (i : ℕ) → i < a.width * a.height → pixel_at c.bytes i ≡ cond (nat_le start i && nat_lt i (end + 1)) color (pixel_at a.bytes i)
  each i within = elim (cases_eq i end) [
    | inl same ↦
        let in_it : (nat_le start i && nat_lt i (end + 1)) ≡ true = grind (arith, nat_tests) in
        rw in_it (ap (pixel_at c.bytes) same ∙ set_here.changed)
    | inr apart ↦
        let alike : (nat_le start i && nat_lt i (end + 1)) ≡ (nat_le start i && nat_lt i end) = grind (arith, nat_tests) in
        rw alike (set_here.others i (rw (before.width, before.height) within) apart ∙ before.pixels i within)
  ]

-- a run that ends where it begins, or later, is that up to its end
pub IsRun-end : (start left end stop : ℕ) (color : Color) (a b : PixmapValue) → stop ≡ max end left → IsRun (start + left) (start + stop) color a b → IsRun (start + left) (start + end) color a b
IsRun-end start left end stop color a b last run = record {
  width = run.width;
  height = run.height;
  pixels = λ i within.
      let alike : (nat_le (start + left) i && nat_lt i (start + stop)) ≡ (nat_le (start + left) i && nat_lt i (start + end)) = grind (arith, nat_tests) in
      rw (← alike) (run.pixels i within);
}

pub same_width : (w : ℕ) → w ≤ w
same_width w = omega arith

-- on two rows of a grid the indices of a run in one row are those of that row, between its ends
pub run_in_row : (q m line w left end : ℕ) → m < w → end ≤ w → (nat_le (line * w + left) (q * w + m) && nat_lt (q * w + m) (line * w + end)) ≡ (q == line && (nat_le left m && nat_lt m end))
run_in_row q m line w left end inside most = elim (cases_order q line) [
  | inl same ↦ rw same (grind (arith, nat_tests))
  | inr apart ↦ elim apart [
    | inl before ↦ let next : q + 1 ≤ line = omega arith in let low : (q + 1) * w ≤ line * w = mul-le-mul next (same_width w) in grind (arith, nat_tests)
    | inr behind ↦ let next : line + 1 ≤ q = omega arith in let high : (line + 1) * w ≤ q * w = mul-le-mul next (same_width w) in grind (arith, nat_tests)
  ]
]

-- a run within a line of the picture, lines counted from the top, is a part of that row
pub IsRun-in_row : (row left end : ℕ) (color : Color) (a b : PixmapValue) → row < a.height → end ≤ a.width →
    IsRun ((a.height - 1 - row) * a.width + left) ((a.height - 1 - row) * a.width + end) color a b → IsPixmapColored (is_in_row row left end) color a b
unfolding is_in_row column_of row_of
IsRun-in_row row left end color a b here most run = record { width = run.width; height = run.height; pixels = each } where
  each : (i : ℕ) → i < a.width * a.height →
      pixel_at b.bytes i ≡ cond (a.height - 1 - i / a.width == row && (nat_le left (i % a.width) && nat_lt (i % a.width) end)) color (pixel_at a.bytes i)
  each i within =
      let line = a.height - 1 - row in
      let wide : 0 < a.width = elim (cases_order 0 a.width) [
        | inl none ↦ absurd (let empty : a.width * a.height ≡ 0 = rw (← none) (omega arith) in omega arith)
        | inr apart ↦ elim apart [ inl some ↦ some | inr never ↦ absurd (omega arith) ]
      ] in
      let inside : i % a.width < a.width = omega arith in
      let above : i / a.width < a.height = div_below i a.width a.height wide (omega (arith, mul_comm a.width a.height)) in
      let split : i / a.width * a.width + i % a.width ≡ i = omega (arith, mul_comm (i / a.width) a.width) in
      let same_line : (i / a.width == line) ≡ (a.height - 1 - i / a.width == row) = grind (arith, nat_tests) in
      let by_index = run_in_row (i / a.width) (i % a.width) line a.width left end inside most in
      run.pixels i within
      ∙ ap (λ (shows : Bool). cond shows color (pixel_at a.bytes i))
      (ap (λ (n : ℕ). nat_le (line * a.width + left) n && nat_lt n (line * a.width + end)) (sym split)
      ∙ by_index ∙ ap (λ (shows : Bool). shows && (nat_le left (i % a.width) && nat_lt (i % a.width) end)) same_line)

-- ---- a box

-- rows of a box, from its lowest to before another
abbrev pub in_rows : PixelBox → ℕ → ℕ → ℕ → ℕ → Bool
in_rows f bottom row k m = is_between f.left f.right k && (nat_le bottom m && nat_lt m row)

pub IsCut-same : (most width cut : ℕ) (z side : ℤ) → most ≡ width → z ≡ side → IsCutBefore most cut z → IsCutBefore width cut side
IsCut-same most width cut z side wide same is = λ k within. rw (← same) (is k (rw wide within))

pub between_cuts : (most first end : ℕ) (low high : ℤ) (k : ℕ) → IsCutBefore most first low → IsCutBefore most end high → k < most → is_between low high k ≡ (nat_le first k && nat_lt k end)
unfolding is_between
between_cuts most first end low high k begins ends within =
    let past : not (nat_lt k first) ≡ nat_le first k = grind (arith, nat_tests) in
    rw (← begins k within, ← ends k within, past) refl

module _ (f : PixelBox) (left right bottom top : ℕ) (color : Color) (a b c : PixmapValue) (begins : IsCutBefore a.width left f.left) (ends : IsCutBefore a.width right f.right) where
  -- one row more
  pub rows_next : (row : ℕ) → bottom ≤ row → IsPixmapColored (in_rows f bottom row) color a b → IsPixmapColored (is_in_row row left right) color b c → IsPixmapColored (in_rows f bottom (row + 1)) color a c
  unfolding is_in_row
  rows_next row above one two = IsColored-next color a b c (in_rows f bottom row) (is_in_row row left right) (in_rows f bottom (row + 1)) either one two where
    either : (k m : ℕ) → k < a.width → m < a.height → in_rows f bottom (row + 1) k m ≡ (in_rows f bottom row k m || is_in_row row left right k m)
    either k m inside high = rw (between_cuts a.width left right f.left f.right k begins ends inside) (by_row (nat_le left k && nat_lt k right)) where
      by_row : (there : Bool) → (there && (nat_le bottom m && nat_lt m (row + 1))) ≡ ((there && (nat_le bottom m && nat_lt m row)) || (m == row && there))
      by_row there = grind (arith, nat_tests)

  -- all rows
  pub rows_all : (row : ℕ) → IsCutBefore a.height bottom f.bottom → IsCutBefore a.height top f.top → row ≡ max top bottom → IsPixmapColored (in_rows f bottom row) color a b → IsPixmapColored (is_in f) color a b
  unfolding is_in
  rows_all row low high last is = IsColored-same color a b c (in_rows f bottom row) (is_in f) same is where
    same : (k m : ℕ) → k < a.width → m < a.height → is_in f k m ≡ in_rows f bottom row k m
    same k m inside within =
        let up : (nat_le bottom m && nat_lt m top) ≡ (nat_le bottom m && nat_lt m row) = grind (arith, nat_tests) in
        ap (λ (there : Bool). is_between f.left f.right k && there) (between_cuts a.height bottom top f.bottom f.top m low high within ∙ up)
