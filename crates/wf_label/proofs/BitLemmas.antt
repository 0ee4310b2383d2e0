-- The bits of a label: which pixels are in one, and how the bits of a row, a character and a text
-- come together.
use Rattle.std.proofs.Common.{◌≡◌, ℕ, zero, suc, ◌+◌, ◌*◌, ◌/◌, ◌%◌, ◌<◌, ◌≤◌, ◌==◌, Bool, true, false, ◌&&◌, ◌||◌, List, length, get_or, Option, Some, None, ℤ, pos, nat_abs, inl, inr, refl, sym, ap, ◌∙◌, arith}
use Rattle.std.specs.Prelude.{nat_le, nat_lt, slice_get}
use Rattle.std.proofs.lemmas.Bool.{cases_lt, cases_order, ne_eqb}
use Rattle.std.proofs.lemmas.Bool.Decides.{nat_tests}
use Rattle.std.proofs.lemmas.Int.{ints}
use Rattle.std.proofs.lemmas.Nat.{div-mul-add, mod-mul-add, mul-add-lt}
use Rattle.std.proofs.Math.Nat.{mul_comm, mul_assoc, mul-add, mul-le-mul_left, div-div-eq-div-mul}
use Rattle.std.specs.Str.{chars}
use Rattle.std.specs.Option.{option_map}
use Rattle.std.specs.List.{enumerate_from}
use Rattle.std.proofs.lemmas.List.FromFn.{length-enumerate_from, get_or-enumerate_from}
use Rattle.std.proofs.lemmas.Option.{slice_get_past, slice_get_read}
use Rattle.wf_def.specs.declared.color.Color.{Color}
use Rattle.wf_geometry.specs.Exact.{plus, difference, is_less}
use Rattle.wf_paint.specs.Pixmap.{PixmapValue}
use Rattle.wf_label.specs.Colored.{IsPixmapColored, is_between, is_in, bit_at, is_bit, is_in_bits, bit_box, one_bit, row_bits, character_bits}
use Rattle.wf_label.specs.Glyph.{glyph}
use Rattle.wf_label.specs.Ink.{steps, inks, inks_at, inks_bit, inks_steps, has_bit, row_up}
use Rattle.wf_label.specs.Limit.{cell_height, cell_width, glyph_height, glyph_width}
use Rattle.wf_label.specs.Placed.{PlacedValue, scale_of}
use Rattle.wf_label.proofs.ColoredLemmas.{IsColored-none, IsColored-same, IsColored-next}
use Rattle.wf_def.specs.declared.choice.LabelSize.{LabelSize}
use Rattle.wf_def.specs.declared.choice.LabelSize.TheVariants.{Tiny, Small, Medium, Large, Giant}

pub some_scale : (size : LabelSize) → 0 < scale_of size
some_scale Tiny = omega arith
some_scale Small = omega arith
some_scale Medium = omega arith
some_scale Large = omega arith
some_scale Giant = omega arith

-- ---- one bit

abbrev is_at : ℕ → Option ℕ → Bool
is_at n None = false
is_at n (Some bit) = bit == n

before : (first : ℤ) (k a b : ℕ) → is_less (pos k) first ≡ true → is_between (plus first (pos a)) (plus (plus first (pos a)) (pos b)) k ≡ false
unfolding is_between is_less plus
before first k a b less = grind (arith, ints)

behind : (first : ℤ) (k a b : ℕ) → is_less (pos k) first ≡ false →
    is_between (plus first (pos a)) (plus (plus first (pos a)) (pos b)) k ≡ (nat_le a (nat_abs (difference (pos k) first)) && nat_lt (nat_abs (difference (pos k) first)) (a + b))
unfolding is_between is_less plus difference
behind first k a b from = grind (arith, ints, nat_tests)

quotient_of : (scale n far : ℕ) → 0 < scale → (nat_le (scale * n) far && nat_lt far (scale * n + scale)) ≡ (far / scale == n)
quotient_of scale n far some = elim (cases_order (far / scale) n) [
  | inl same ↦
      let split : scale * (far / scale) + far % scale ≡ far = omega arith in
      let left : far % scale < scale = omega arith in
      rw (← same) (grind (arith, nat_tests))
  | inr apart ↦ elim apart [
    | inl less ↦
        let split : scale * (far / scale) + far % scale ≡ far = omega arith in
        let left : far % scale < scale = omega arith in
        let most : scale * (far / scale + 1) ≤ scale * n = omega (arith, mul-le-mul_left {m = far / scale + 1} {n = n} scale (omega arith)) in
        let step : scale * (far / scale + 1) ≡ scale * (far / scale) + scale = omega arith in
        grind (arith, nat_tests)
    | inr more ↦
        let split : scale * (far / scale) + far % scale ≡ far = omega arith in
        let most : scale * (n + 1) ≤ scale * (far / scale) = omega (arith, mul-le-mul_left {m = n + 1} {n = far / scale} scale (omega arith)) in
        let step : scale * (n + 1) ≡ scale * n + scale = omega arith in
        grind (arith, nat_tests)
  ]
]

-- on one axis, a pixel lies in a bit exactly where it is the bit that the pixel is in
span_bit : (first : ℤ) (scale n k : ℕ) → 0 < scale → is_between (plus first (pos (scale * n))) (plus (plus first (pos (scale * n))) (pos scale)) k ≡ is_at n (bit_at scale first k)
unfolding bit_at steps
span_bit first scale n k some = by_test (is_less (pos k) first) refl where
  by_test : (b : Bool) → is_less (pos k) first ≡ b → is_between (plus first (pos (scale * n))) (plus (plus first (pos (scale * n))) (pos scale)) k ≡ is_at n (bit_at scale first k)
  by_test true less = rw (less, before first k (scale * n) scale less) refl
  by_test false from = rw (from, behind first k (scale * n) scale from) (quotient_of scale n (nat_abs (difference (pos k) first)) some)

one_at : (across up : ℕ) (x y : Option ℕ) → (is_at across x && is_at up y) ≡ is_bit (one_bit across up) x y
one_at across up None y = refl
one_at across up (Some a) None = by_first (a == across) where
  by_first : (b : Bool) → (b && false) ≡ false
  by_first true = refl
  by_first false = refl
one_at across up (Some a) (Some b) = refl

pub in_one_bit : (label : PlacedValue) (across up k m : ℕ) → 0 < label.scale → is_in_bits label (one_bit across up) k m ≡ is_in (bit_box label across up) k m
unfolding is_in_bits is_in bit_box
in_one_bit label across up k m some =
    rw (span_bit label.left label.scale across k some, span_bit label.bottom label.scale up m some) (sym (one_at across up (bit_at label.scale label.left k) (bit_at label.scale label.bottom m)))

-- ---- bits together

bit_or : (f g h : ℕ → ℕ → Bool) → ((a b : ℕ) → h a b ≡ (f a b || g a b)) → (x y : Option ℕ) → is_bit h x y ≡ (is_bit f x y || is_bit g x y)
bit_or f g h either None y = refl
bit_or f g h either (Some a) None = refl
bit_or f g h either (Some a) (Some b) = either a b

pub in_bits-or : (label : PlacedValue) (f g h : ℕ → ℕ → Bool) → ((a b : ℕ) → h a b ≡ (f a b || g a b)) → (k m : ℕ) → is_in_bits label h k m ≡ (is_in_bits label f k m || is_in_bits label g k m)
unfolding is_in_bits
in_bits-or label f g h either k m = bit_or f g h either (bit_at label.scale label.left k) (bit_at label.scale label.bottom m)

bit_same : (f g : ℕ → ℕ → Bool) → ((a b : ℕ) → g a b ≡ f a b) → (x y : Option ℕ) → is_bit g x y ≡ is_bit f x y
bit_same f g same None y = refl
bit_same f g same (Some a) None = refl
bit_same f g same (Some a) (Some b) = same a b

pub in_bits-same : (label : PlacedValue) (f g : ℕ → ℕ → Bool) → ((a b : ℕ) → g a b ≡ f a b) → (k m : ℕ) → is_in_bits label g k m ≡ is_in_bits label f k m
unfolding is_in_bits
in_bits-same label f g same k m = bit_same f g same (bit_at label.scale label.left k) (bit_at label.scale label.bottom m)

-- no bit
bit_none : (f : ℕ → ℕ → Bool) → ((a b : ℕ) → f a b ≡ false) → (x y : Option ℕ) → is_bit f x y ≡ false
bit_none f none None y = refl
bit_none f none (Some a) None = refl
bit_none f none (Some a) (Some b) = none a b

pub in_bits-none : (label : PlacedValue) (f : ℕ → ℕ → Bool) → ((a b : ℕ) → f a b ≡ false) → (k m : ℕ) → is_in_bits label f k m ≡ false
unfolding is_in_bits
in_bits-none label f none k m = bit_none f none (bit_at label.scale label.left k) (bit_at label.scale label.bottom m)

-- ---- a row of a character

pub no_more_bits : (row column : ℕ) → glyph_width ≤ column → has_bit row column ≡ false
unfolding has_bit
no_more_bits row column far = grind (arith, nat_tests)

-- the first columns of the row
abbrev pub row_so_far : ℕ → ℕ → ℕ → ℕ → ℕ → ℕ → Bool
row_so_far index up row column a b = nat_lt (a % cell_width) column && row_bits index up row a b

pub row_none : (index up row a b : ℕ) → row_so_far index up row 0 a b ≡ false
row_none index up row a b = grind (arith, nat_tests)

pub cell_split : (a : ℕ) → cell_width * (a / cell_width) + a % cell_width ≡ a
cell_split a = omega arith

pub row_bit : (index up row column a b : ℕ) → column < cell_width → has_bit row column ≡ true →
    row_so_far index up row (column + 1) a b ≡ (row_so_far index up row column a b || one_bit (cell_width * index + column) up a b)
row_bit index up row column a b inside set = elim (cases_order (a % cell_width) column) [
  | inl same ↦
      let here : has_bit row (a % cell_width) ≡ true = ap (has_bit row) same ∙ set in
      let test : (a == cell_width * index + column) ≡ (a / cell_width == index) = grind (arith, nat_tests) in
      grind (arith, nat_tests)
  | inr apart ↦
      let test : (a == cell_width * index + column) ≡ false = ne_eqb a (cell_width * index + column) (λ e. omega arith) in
      grind (arith, nat_tests)
]

pub row_gap : (index up row column a b : ℕ) → has_bit row column ≡ false → row_so_far index up row (column + 1) a b ≡ row_so_far index up row column a b
row_gap index up row column a b clear = elim (cases_order (a % cell_width) column) [
  | inl same ↦ let here : has_bit row (a % cell_width) ≡ false = ap (has_bit row) same ∙ clear in grind (arith, nat_tests)
  | inr apart ↦ grind (arith, nat_tests)
]

pub row_all : (index up row a b : ℕ) → row_bits index up row a b ≡ row_so_far index up row glyph_width a b
row_all index up row a b = elim (cases_order (a % cell_width) glyph_width) [
  | inl same ↦ let here : has_bit row (a % cell_width) ≡ false = no_more_bits row (a % cell_width) (omega arith) in grind (arith, nat_tests)
  | inr apart ↦ elim apart [
    | inl less ↦ grind (arith, nat_tests)
    | inr never ↦ absurd (omega arith)
  ]
]

-- ---- a character

empty_row : (column : ℕ) → has_bit 0 column ≡ false
unfolding has_bit
empty_row column = grind (arith, nat_tests)

row_up-outside : (rows : List ℕ) (up : ℕ) → (nat_le 1 up && nat_le up glyph_height) ≡ false → row_up rows up ≡ 0
unfolding row_up
row_up-outside rows up outside = rw outside refl

pub outside_empty : (c up column : ℕ) → (nat_le 1 up && nat_le up glyph_height) ≡ false → has_bit (row_up (glyph c) up) column ≡ false
outside_empty c up column outside = ap (λ (row : ℕ). has_bit row column) (row_up-outside (glyph c) up outside) ∙ empty_row column

-- the first rows of the character
abbrev pub character_so_far : ℕ → ℕ → ℕ → ℕ → ℕ → Bool
character_so_far index c up a b = nat_lt b up && character_bits index c a b

pub character_none : (index c a b : ℕ) → character_so_far index c 1 a b ≡ false
character_none index c a zero = let empty = outside_empty c 0 (a % cell_width) refl in grind (arith, nat_tests)
character_none index c a (suc b) = grind (arith, nat_tests)

pub character_row : (index c up row a b : ℕ) → row ≡ row_up (glyph c) up → character_so_far index c (up + 1) a b ≡ (character_so_far index c up a b || row_bits index up row a b)
character_row index c up row a b is = elim (cases_order b up) [
  | inl same ↦
      let here : has_bit row (a % cell_width) ≡ has_bit (row_up (glyph c) b) (a % cell_width) = ap (λ (r : ℕ). has_bit r (a % cell_width)) (is ∙ ap (row_up (glyph c)) (sym same)) in
      grind (arith, nat_tests)
  | inr apart ↦ grind (arith, nat_tests)
]

pub character_all : (index c a b : ℕ) → character_bits index c a b ≡ character_so_far index c cell_height a b
character_all index c a b = elim (cases_lt b cell_height) [
  | inl low ↦ grind (arith, nat_tests)
  | inr high ↦
      let outside : (nat_le 1 b && nat_le b glyph_height) ≡ false = grind (arith, nat_tests) in
      let empty = outside_empty c b (a % cell_width) outside in
      grind (arith, nat_tests)
]

-- ---- a text

-- the first characters of the text
abbrev pub text_so_far : List ℕ → ℕ → ℕ → ℕ → Bool
text_so_far text n a b = nat_lt (a / cell_width) n && inks_bit (slice_get text (a / cell_width)) (a % cell_width) b

pub text_none : (text : List ℕ) (a b : ℕ) → text_so_far text 0 a b ≡ false
text_none text a b = grind (arith, nat_tests)

pub text_character : (text : List ℕ) (n c a b : ℕ) → slice_get text n ≡ Some c → text_so_far text (n + 1) a b ≡ (text_so_far text n a b || character_bits n c a b)
text_character text n c a b is = elim (cases_order (a / cell_width) n) [
  | inl same ↦
      let here : inks_bit (slice_get text (a / cell_width)) (a % cell_width) b ≡ has_bit (row_up (glyph c) b) (a % cell_width) = rw (same, is) refl in
      grind (arith, nat_tests)
  | inr apart ↦ grind (arith, nat_tests)
]

-- which character an item of the numbered text is
pub record IsNumbered (text : List ℕ) (i index c : ℕ) : Type 0 where
  pub index_is : index ≡ i
  pub character_is : slice_get text i ≡ Some c

pub numbered : (text : List ℕ) (i index c : ℕ) → i < length (enumerate_from 0 text) → (index, c) ≡ get_or (enumerate_from 0 text) i (index, c) → IsNumbered text i index c
numbered text i index c within here =
    let inside : i < length text = omega (arith, length-enumerate_from 0 text) in
    let pair : (let p : ℕ × ℕ = (index, c) in p) ≡ (0 + i, get_or text i c) = here ∙ get_or-enumerate_from 0 text i (index, c) inside in
    let first : index ≡ 0 + i = ap (λ (p : ℕ × ℕ). p.0) pair in
    record { index_is = omega (arith, first); character_is = slice_get_read text (length text) i c refl inside (ap (λ (p : ℕ × ℕ). p.1) pair) }

-- all characters: the bits that the text inks
abbrev pub text_bits : List ℕ → ℕ → ℕ → Bool
text_bits text a b = inks_bit (slice_get text (a / cell_width)) (a % cell_width) b

pub text_all : (text : List ℕ) (a b : ℕ) → text_bits text a b ≡ text_so_far text (length text) a b
text_all text a b = elim (cases_lt (a / cell_width) (length text)) [
  | inl inside ↦ grind (arith, nat_tests)
  | inr past ↦
      let none : inks_bit (slice_get text (a / cell_width)) (a % cell_width) b ≡ false = rw (slice_get_past text (a / cell_width) past) refl in
      grind (arith, nat_tests)
]

-- ---- the label

by_cell : (scale far : ℕ) → far / (cell_width * scale) ≡ far / scale / cell_width
by_cell scale far = ap (λ (n : ℕ). far / n) (mul_comm cell_width scale) ∙ sym (div-div-eq-div-mul far scale cell_width)

in_cell : (scale far : ℕ) → 0 < scale → far % (cell_width * scale) / scale ≡ far / scale % cell_width
in_cell scale far some =
    let first : scale * (far / scale) + far % scale ≡ far = omega arith in
    let less : far % scale < scale = omega arith in
    let second : cell_width * (far / scale / cell_width) + far / scale % cell_width ≡ far / scale = omega arith in
    let small : far / scale % cell_width < cell_width = omega arith in
    let wide : scale * (cell_width * (far / scale / cell_width) + far / scale % cell_width) ≡ cell_width * scale * (far / scale / cell_width) + scale * (far / scale % cell_width) = ring scale (far / scale / cell_width) (far / scale % cell_width) in
    let whole : scale * (far / scale) ≡ cell_width * scale * (far / scale / cell_width) + scale * (far / scale % cell_width) = ap (λ (n : ℕ). scale * n) (sym second) ∙ wide in
    let rest : scale * (far / scale % cell_width) + far % scale < cell_width * scale = omega (arith, mul-add-lt (far / scale % cell_width) scale (far % scale) cell_width small less, mul_comm scale (far / scale % cell_width), mul_comm scale cell_width) in
    let split : far / scale / cell_width * (cell_width * scale) + (scale * (far / scale % cell_width) + far % scale) ≡ far = omega (arith, mul_comm (far / scale / cell_width) (cell_width * scale)) in
    let left : far % (cell_width * scale) ≡ far / scale % cell_width * scale + far % scale =
    ap (λ (n : ℕ). n % (cell_width * scale)) (sym split) ∙ mod-mul-add (far / scale / cell_width) (cell_width * scale) (scale * (far / scale % cell_width) + far % scale) rest ∙ ap (λ (n : ℕ). n + far % scale) (mul_comm scale (far / scale % cell_width)) in
    ap (λ (n : ℕ). n / scale) left ∙ div-mul-add (far / scale % cell_width) scale (far % scale) less
  where
    ring : (s q r : ℕ) → s * (cell_width * q + r) ≡ cell_width * s * q + s * r
    ring s q r = mul-add s (cell_width * q) r ∙ ap (λ (n : ℕ). n + s * r) (sym (mul_assoc s cell_width q) ∙ ap (λ (n : ℕ). n * q) (mul_comm s cell_width))

inks_bits : (label : PlacedValue) → 0 < label.scale → (x y : Option ℕ) →
    inks_steps label x y ≡ is_bit (text_bits (chars label.text)) (option_map (λ n. n / label.scale) x) (option_map (λ n. n / label.scale) y)
unfolding inks_at
inks_bits label some None y = refl
inks_bits label some (Some right) None = refl
inks_bits label some (Some right) (Some up) = rw (by_cell label.scale right, in_cell label.scale right some) refl

-- a label inks the pixels in the bits of its text
pub inks_in_bits : (label : PlacedValue) (k m : ℕ) → 0 < label.scale → inks label (pos k) (pos m) ≡ is_in_bits label (text_bits (chars label.text)) k m
unfolding inks is_in_bits bit_at
inks_in_bits label k m some = inks_bits label some (steps label.left (pos k)) (steps label.bottom (pos m))

-- ---- pictures

module _ (label : PlacedValue) (color : Color) (a b c : PixmapValue) where
  pub bits_none : (f : ℕ → ℕ → Bool) → ((k m : ℕ) → f k m ≡ false) → IsPixmapColored (is_in_bits label f) color a a
  bits_none f none = IsColored-none color a b c (is_in_bits label f) (in_bits-none label f none)

  pub bits_same : (f g : ℕ → ℕ → Bool) → ((k m : ℕ) → g k m ≡ f k m) → IsPixmapColored (is_in_bits label f) color a b → IsPixmapColored (is_in_bits label g) color a b
  bits_same f g same is = IsColored-same color a b c (is_in_bits label f) (is_in_bits label g) (λ k m wide high. in_bits-same label f g same k m) is

  pub bits_next : (f g h : ℕ → ℕ → Bool) → ((k m : ℕ) → h k m ≡ (f k m || g k m)) → IsPixmapColored (is_in_bits label f) color a b → IsPixmapColored (is_in_bits label g) color b c → IsPixmapColored (is_in_bits label h) color a c
  bits_next f g h either one two = IsColored-next color a b c (is_in_bits label f) (is_in_bits label g) (is_in_bits label h) (λ k m wide high. in_bits-or label f g h either k m) one two
