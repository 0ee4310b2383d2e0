-- Pixels that all have one colour: joined, cut, and written one after the other; and pixels after
-- other bytes.
use Rattle.std.proofs.Common.{◌≡◌, ℕ, ◌+◌, ◌-◌, ◌*◌, ◌^◌, ◌<◌, ◌≤◌, ◌++◌, ◌∷◌, inl, inr, List, [], length, get_or, set, take, drop, refl, sym, ap, subst, ◌∙◌, arith}
use Rattle.std.proofs.Math.Nat.{mul-le-mul}
use Rattle.std.proofs.lemmas.Bool.{cases_lt, cases_eq}
use Rattle.std.proofs.lemmas.List.{get_or_append_left, get_or-append_right, get_or-take, length-append, length-take-le, length-drop, length-set, take_all, take_more, take_more_set, take-append-drop, drop-append-le, drop-set-add, drop-set-lt}
use Rattle.wf_def.specs.declared.color.Color.{Color}
use Rattle.wf_geometry.specs.Limit.{most_pixels}
use Rattle.wf_paint.specs.Pixmap.{pixel_at}
use Rattle.wf_paint.specs.Cells.{IsPlain, IsPixelWritten}
use Rattle.wf_paint.proofs.PixelLemmas.{color-same, pixel_written, with_pixel}

-- a view has at most this many pixels
pub area_most : (width height : ℕ) → width ≤ most_pixels → height ≤ most_pixels → width * height ≤ 2 ^ 20
area_most width height wide high = mul-le-mul wide high

module _ (xs ys : List ℕ) (i : ℕ) where
  pub pixel_at-left : 3 * i + 2 < length xs → pixel_at (xs ++ ys) i ≡ pixel_at xs i
  unfolding pixel_at
  pixel_at-left within = color-same _ _
      (get_or_append_left xs ys 0 (3 * i) (omega arith))
      (get_or_append_left xs ys 0 (3 * i + 1) (omega arith))
      (get_or_append_left xs ys 0 (3 * i + 2) (omega arith))

  pub pixel_at-right : (count : ℕ) → length xs ≡ 3 * count → count ≤ i → pixel_at (xs ++ ys) i ≡ pixel_at ys (i - count)
  unfolding pixel_at
  pixel_at-right count size from =
      let first : 3 * i - 3 * count ≡ 3 * (i - count) = omega arith in
      let second : 3 * i + 1 - 3 * count ≡ 3 * (i - count) + 1 = omega arith in
      let third : 3 * i + 2 - 3 * count ≡ 3 * (i - count) + 2 = omega arith in
      color-same _ _
      (get_or-append_right xs ys (3 * count) (3 * i) 0 size (omega arith) ∙ ap (λ (n : ℕ). get_or ys n 0) first)
      (get_or-append_right xs ys (3 * count) (3 * i + 1) 0 size (omega arith) ∙ ap (λ (n : ℕ). get_or ys n 0) second)
      (get_or-append_right xs ys (3 * count) (3 * i + 2) 0 size (omega arith) ∙ ap (λ (n : ℕ). get_or ys n 0) third)

pub pixel_at-take : (size : ℕ) (xs : List ℕ) (i : ℕ) → 3 * i + 2 < size → pixel_at (take size xs) i ≡ pixel_at xs i
unfolding pixel_at
pixel_at-take size xs i within = color-same _ _
    (get_or-take size xs (3 * i) 0 (omega arith))
    (get_or-take size xs (3 * i + 1) 0 (omega arith))
    (get_or-take size xs (3 * i + 2) 0 (omega arith))

-- no pixels
pub plain_none : (color : Color) → IsPlain 0 color []
plain_none color = record { size = refl; pixels = λ i within. absurd (omega arith) }

-- some pixels and more of them
pub plain_more : (count more : ℕ) (color : Color) (xs ys : List ℕ) → IsPlain count color xs → IsPlain more color ys → IsPlain (count + more) color (xs ++ ys)
plain_more count more color xs ys first second = record {
  size = length-append xs ys ∙ omega (arith, first.size, second.size);
  pixels = λ i within. elim (cases_lt i count) [
    | inl earlier ↦ pixel_at-left xs ys i (omega (arith, first.size)) ∙ first.pixels i earlier
    | inr later ↦ pixel_at-right xs ys i count first.size later ∙ second.pixels (i - count) (omega arith)
  ];
}

-- the first of them
pub plain_part : (count part : ℕ) (color : Color) (xs : List ℕ) → part ≤ count → IsPlain count color xs → IsPlain part color (take (3 * part) xs)
plain_part count part color xs within whole = record {
  size = length-take-le (3 * part) xs (omega (arith, whole.size));
  pixels = λ i before. pixel_at-take (3 * part) xs i (omega arith) ∙ whole.pixels i (omega arith);
}

-- the first pixels of a block have the colour
pub record BeginsPlain (count size : ℕ) (color : Color) (bytes : List ℕ) : Type 0 where
  pub length_is : length bytes ≡ size
  pub pixels : (i : ℕ) → i < count → pixel_at bytes i ≡ color

-- one more is written
pub written_plain : (count size : ℕ) (color : Color) (bytes : List ℕ) → 3 * count + 2 < size → BeginsPlain count size color bytes →
    BeginsPlain (count + 1) size color (with_pixel bytes (3 * count) color)
written_plain count size color bytes within begun =
    let written : IsPixelWritten count color bytes (with_pixel bytes (3 * count) color) = pixel_written bytes count color (omega (arith, begun.length_is)) in
    record {
      length_is = written.size ∙ begun.length_is;
      pixels = λ i before. elim (cases_eq i count) [
        | inl same ↦ rw same written.changed
        | inr apart ↦ written.others i apart ∙ begun.pixels i (omega arith)
      ];
    }

-- ---- pixels after `room` other bytes

pub within_all : (room k : ℕ) (bytes : List ℕ) → k < length (drop room bytes) → room + k < length bytes
within_all room k bytes within = omega (arith, length-drop room bytes)

pub plain_begins : (room : ℕ) (color : Color) (bytes : List ℕ) → length bytes ≡ room → IsPlain 0 color (drop room bytes)
plain_begins room color bytes sized = record { size = length-drop room bytes ∙ omega arith; pixels = λ i within. absurd (omega arith) }

pub plain_longer : (room count more : ℕ) (color : Color) (xs ys : List ℕ) → room ≤ length xs → IsPlain count color (drop room xs) → IsPlain more color ys →
    IsPlain (count + more) color (drop room (xs ++ ys))
plain_longer room count more color xs ys within first second =
    subst (λ (bytes : List ℕ). IsPlain (count + more) color bytes) (sym (drop-append-le room xs ys within)) (plain_more count more color (drop room xs) ys first second)

drop-pixel : (room start : ℕ) (bytes : List ℕ) (color : Color) → drop room (with_pixel bytes (room + start) color) ≡ with_pixel (drop room bytes) start color
drop-pixel room start bytes color =
    let second : room + start + 1 ≡ room + (start + 1) = omega arith in
    let third : room + start + 2 ≡ room + (start + 2) = omega arith in
    ap (λ (i : ℕ). drop room (set (set (set bytes (room + start) color.r) (room + start + 1) color.g) i color.b)) third
    ∙ drop-set-add room (set (set bytes (room + start) color.r) (room + start + 1) color.g) (start + 2) color.b
    ∙ ap (λ (l : List ℕ). set l (start + 2) color.b) (ap (λ (i : ℕ). drop room (set (set bytes (room + start) color.r) i color.g)) second
    ∙ drop-set-add room (set bytes (room + start) color.r) (start + 1) color.g
    ∙ ap (λ (l : List ℕ). set l (start + 1) color.g) (drop-set-add room bytes start color.r))

pub written_after : (room index : ℕ) (color : Color) (bytes : List ℕ) → 3 * index + 2 < length (drop room bytes) →
    IsPixelWritten index color (drop room bytes) (drop room (with_pixel bytes (room + 3 * index) color))
written_after room index color bytes within =
    subst (λ (new : List ℕ). IsPixelWritten index color (drop room bytes) new) (sym (drop-pixel room (3 * index) bytes color)) (pixel_written (drop room bytes) index color within)

-- ---- a head in place of the first bytes

-- so many bytes of the head are written
pub record BeginsWith (count : ℕ) (head old new : List ℕ) : Type 0 where
  pub size : length new ≡ length old
  pub front : take count new ≡ take count head
  pub rest : drop (length head) new ≡ drop (length head) old

pub head_none : (head bytes : List ℕ) → BeginsWith 0 head bytes bytes
head_none head bytes = record { size = refl; front = refl; rest = refl }

pub head_more : (count : ℕ) (head old now : List ℕ) (byte : ℕ) → length head ≤ length old → count < length head → byte ≡ get_or head count 0 →
    BeginsWith count head old now → BeginsWith (count + 1) head old (set now count byte)
head_more count head old now byte within before is begun = record {
  size = length-set now count byte ∙ begun.size;
  front = take_more_set now count byte (omega (arith, begun.size))
      ∙ ap (λ (l : List ℕ). l ++ byte ∷ []) begun.front ∙ ap (λ (b : ℕ). take count head ++ b ∷ []) is ∙ sym (take_more head count 0 before);
  rest = drop-set-lt (length head) now count byte before ∙ begun.rest;
}

pub head_all : (count : ℕ) (head old new : List ℕ) → count ≡ length head → BeginsWith count head old new → new ≡ head ++ drop (length head) old
head_all count head old new all begun =
    let front : take (length head) new ≡ head = subst (λ (n : ℕ). take n new ≡ take n head) all begun.front ∙ take_all (length head) head (omega arith) in
    sym (take-append-drop (length head) new) ∙ ap (λ (l : List ℕ). l ++ drop (length head) new) front ∙ ap (λ (l : List ℕ). head ++ l) begun.rest
