-- Marks of pixels: a word has the bits of 64 of them.
use Rattle.std.proofs.Common.{◌≡◌, ℕ, zero, suc, ◌+◌, ◌-◌, ◌*◌, ◌/◌, ◌%◌, ◌^◌, ◌<◌, ◌≤◌, max, inl, inr, Bool, true, false, eqb, ◌&&◌, ◌||◌, nat_lt, List, length, get_or, slice_index, set, replicate, bit_and, bit_or, w64, refl, sym, ap, ◌∙◌, arith}
use Rattle.std.specs.Int.{bit_at, trailing_zeros}
use Rattle.std.specs.Prelude.{nat_le}
use Rattle.std.proofs.Math.Nat.{mul-le-mul, mul_comm}
use Rattle.std.proofs.lemmas.Bool.{cases_eq, cases_lt}
use Rattle.std.proofs.lemmas.Bool.Decides.{nat_tests}
use Rattle.std.proofs.lemmas.List.{get_or-set_same, get_or-set_other}
use Rattle.std.proofs.lemmas.Nat.Bits.{bit_at-lt, bit_at-zero, bit_at_or, bit_at-trailing_zeros}
use Rattle.wf_geometry.specs.Limit.{most_pixels}
use Rattle.wf_paint.proofs.CellsLemmas.{IsMask, masked_in, masked_out}
use Rattle.wf_paint.proofs.PlainLemmas.{area_most}
use Rattle.wf_label.proofs.ColoredLemmas.{same_width}
use Rattle.wf_label.specs.Taken.{IsMarkedWithin, is_marked, words_for}

-- a pixel by its bit
marked : (marks : List ℕ) (n : ℕ) → bit_at (slice_index marks (n / 64)) (n % 64) ≡ 1 → is_marked marks n ≡ true
unfolding is_marked
marked marks n is = ap (λ (b : ℕ). eqb b 1) is

unmarked : (marks : List ℕ) (n : ℕ) → bit_at (slice_index marks (n / 64)) (n % 64) ≡ 0 → is_marked marks n ≡ false
unfolding is_marked
unmarked marks n is = ap (λ (b : ℕ). eqb b 1) is

same_mark : (old new : List ℕ) (n : ℕ) → bit_at (slice_index new (n / 64)) (n % 64) ≡ bit_at (slice_index old (n / 64)) (n % 64) → is_marked new n ≡ is_marked old n
unfolding is_marked
same_mark old new n same = ap (λ (b : ℕ). eqb b 1) same

-- whether an index lies in a span
in_span : (start end n : ℕ) → start ≤ n → n < end → (nat_le start n && nat_lt n end) ≡ true
in_span start end n from before = grind (arith, nat_tests)

before_span : (start end n : ℕ) → n < start → (nat_le start n && nat_lt n end) ≡ false
before_span start end n early = grind (arith, nat_tests)

after_span : (start end n : ℕ) → end ≤ n → (nat_le start n && nat_lt n end) ≡ false
after_span start end n late = grind (arith, nat_tests)

-- two spans, the second from where the first ends on
two_spans : (start here next n : ℕ) → start ≤ here → here ≤ next → ((nat_le here n && nat_lt n next) || (nat_le start n && nat_lt n here)) ≡ (nat_le start n && nat_lt n next)
two_spans start here next n from further = grind (arith, nat_tests)

pub spans_join : (start here next n : ℕ) (t : Bool) → start ≤ here → here ≤ next →
    ((nat_le here n && nat_lt n next) || ((nat_le start n && nat_lt n here) || t)) ≡ ((nat_le start n && nat_lt n next) || t)
spans_join start here next n t from further = regrouped (nat_le here n && nat_lt n next) (nat_le start n && nat_lt n here) (nat_le start n && nat_lt n next) (two_spans start here next n from further) where
  regrouped : (a b c : Bool) → (a || b) ≡ c → (a || (b || t)) ≡ (c || t)
  regrouped true b c e = ap (λ (u : Bool). u || t) e
  regrouped false b c e = ap (λ (u : Bool). u || t) e

most_none : (a b : ℕ) → b ≡ 0 → max a b ≡ a
most_none a b none = omega arith

most_one : (a b : ℕ) → a < 2 → b ≡ 1 → max a b ≡ 1
most_one a b small one = omega arith

-- the indices of a span in one word, whose bits the mask has
module _ (marks : List ℕ) (start end mask : ℕ) (order : start < end) (one : end ≤ 64 * (start / 64 + 1)) (is : IsMask (start % 64) (end - 64 * (start / 64)) mask) where
  -- the word with them
  abbrev with_mask : ℕ
  with_mask = bit_or (slice_index marks (start / 64)) mask

  module _ (within : end ≤ 64 * length marks) (n : ℕ) where
    outside : (nat_le start n && nat_lt n end) ≡ false → is_marked (set marks (start / 64) with_mask) n ≡ is_marked marks n →
        is_marked (set marks (start / 64) with_mask) n ≡ ((nat_le start n && nat_lt n end) || is_marked marks n)
    outside out same = same ∙ sym (ap (λ (t : Bool). t || is_marked marks n) out)

    inside : (nat_le start n && nat_lt n end) ≡ true → is_marked (set marks (start / 64) with_mask) n ≡ true →
        is_marked (set marks (start / 64) with_mask) n ≡ ((nat_le start n && nat_lt n end) || is_marked marks n)
    inside in_it set_now = set_now ∙ sym (ap (λ (t : Bool). t || is_marked marks n) in_it)

    pub word_marked : is_marked (set marks (start / 64) with_mask) n ≡ ((nat_le start n && nat_lt n end) || is_marked marks n)
    word_marked = elim (cases_eq (n / 64) (start / 64)) [
      | inl here ↦
          let now : slice_index (set marks (start / 64) with_mask) (n / 64) ≡ with_mask =
          ap (λ (w : ℕ). slice_index (set marks (start / 64) with_mask) w) here ∙ get_or-set_same marks (start / 64) with_mask 0 (omega arith) in
          let before : slice_index marks (n / 64) ≡ slice_index marks (start / 64) = ap (λ (w : ℕ). slice_index marks w) here in
          let bits : bit_at (slice_index (set marks (start / 64) with_mask) (n / 64)) (n % 64) ≡ max (bit_at (slice_index marks (n / 64)) (n % 64)) (bit_at mask (n % 64)) =
          ap (λ (w : ℕ). bit_at w (n % 64)) now ∙ bit_at_or (slice_index marks (start / 64)) mask (n % 64)
          ∙ ap (λ (w : ℕ). max (bit_at w (n % 64)) (bit_at mask (n % 64))) (sym before) in
          elim (cases_lt (n % 64) (start % 64)) [
            | inl early ↦ outside (before_span start end n (omega arith))
                (same_mark marks (set marks (start / 64) with_mask) n (bits ∙ most_none (bit_at (slice_index marks (n / 64)) (n % 64)) (bit_at mask (n % 64)) (is.below (n % 64) early)))
            | inr from ↦ elim (cases_lt (n % 64) (end - 64 * (start / 64))) [
              | inl in_it ↦ inside (in_span start end n (omega arith) (omega arith))
                  (marked (set marks (start / 64) with_mask) n
                  (bits ∙ most_one (bit_at (slice_index marks (n / 64)) (n % 64)) (bit_at mask (n % 64)) (bit_at-lt (slice_index marks (n / 64)) (n % 64)) (is.within (n % 64) from in_it)))
              | inr late ↦ outside (after_span start end n (omega arith))
                  (same_mark marks (set marks (start / 64) with_mask) n (bits ∙ most_none (bit_at (slice_index marks (n / 64)) (n % 64)) (bit_at mask (n % 64)) (is.above (n % 64) late)))
            ]
          ]
      | inr apart ↦
          let kept : is_marked (set marks (start / 64) with_mask) n ≡ is_marked marks n =
          same_mark marks (set marks (start / 64) with_mask) n (ap (λ (w : ℕ). bit_at w (n % 64)) (get_or-set_other marks (start / 64) (n / 64) with_mask 0 apart)) in
          elim (cases_lt n start) [
            | inl early ↦ outside (before_span start end n early) kept
            | inr from ↦ outside (after_span start end n (omega arith)) kept
          ]
    ]

  -- none of them is marked where the word has no bit of the mask
  pub word_unmarked : bit_and (slice_index marks (start / 64)) mask ≡ 0 → (n : ℕ) → start ≤ n → n < end → is_marked marks n ≡ false
  word_unmarked none n from before =
      let here : n / 64 ≡ start / 64 = omega arith in
      let in_it : bit_at mask (n % 64) ≡ 1 = is.within (n % 64) (omega arith) (omega arith) in
      unmarked marks n
      (ap (λ (w : ℕ). bit_at (slice_index marks w) (n % 64)) here ∙ sym (masked_in (slice_index marks (start / 64)) mask (n % 64) in_it)
      ∙ ap (λ (w : ℕ). bit_at w (n % 64)) none ∙ bit_at-zero (n % 64))

  -- a bit of both isn't outside of the mask
  dark : (bit : ℕ) → bit_at (bit_and (slice_index marks (start / 64)) mask) bit ≡ 1 → bit_at mask bit ≡ 0 → ⊥
  dark bit lit out =
      let none : bit_at (bit_and (slice_index marks (start / 64)) mask) bit ≡ 0 = masked_out (slice_index marks (start / 64)) mask bit out in
      omega (arith, none, lit)

  -- one is where it has one
  pub word_met : 0 < bit_and (slice_index marks (start / 64)) mask → bit_and (slice_index marks (start / 64)) mask < 2 ^ 64 → IsMarkedWithin marks start end
  word_met some fits =
      let both : ℕ = bit_and (slice_index marks (start / 64)) mask in
      let found = bit_at-trailing_zeros w64 both some fits in
      let bit : ℕ = trailing_zeros w64 both in
      let small : bit < 64 = found.0 in
      by_bit bit small found.1 where
        by_bit : (bit : ℕ) → bit < 64 → bit_at (bit_and (slice_index marks (start / 64)) mask) bit ≡ 1 → IsMarkedWithin marks start end
        by_bit bit small lit = elim (cases_lt bit (start % 64)) [
          | inl early ↦ absurd (dark bit lit (is.below bit early))
          | inr from ↦ elim (cases_lt bit (end - 64 * (start / 64))) [
            | inl in_it ↦
                let word_of : (64 * (start / 64) + bit) / 64 ≡ start / 64 = omega arith in
                let bit_of : (64 * (start / 64) + bit) % 64 ≡ bit = omega arith in
                record {
                  index = 64 * (start / 64) + bit;
                  from = omega arith;
                  before = omega arith;
                  marked = marked marks (64 * (start / 64) + bit)
                      (ap (λ (w : ℕ). bit_at (slice_index marks w) ((64 * (start / 64) + bit) % 64)) word_of ∙ ap (bit_at (slice_index marks (start / 64))) bit_of
                      ∙ sym (masked_in (slice_index marks (start / 64)) mask bit (is.within bit from in_it)) ∙ lit);
                }
            | inr late ↦ absurd (dark bit lit (is.above bit late))
          ]
        ]

-- a span whose beginning is free, and one that a later part of is met
pub further_free : (marks : List ℕ) (start here next : ℕ) → ((n : ℕ) → start ≤ n → n < here → is_marked marks n ≡ false) → ((n : ℕ) → here ≤ n → n < next → is_marked marks n ≡ false) →
    (n : ℕ) → start ≤ n → n < next → is_marked marks n ≡ false
further_free marks start here next so_far there n from before = elim (cases_lt n here) [ inl early ↦ so_far n from early | inr late ↦ there n late before ]

pub part_met : (marks : List ℕ) (start here next end : ℕ) → start ≤ here → next ≤ end → IsMarkedWithin marks here next → IsMarkedWithin marks start end
part_met marks start here next end from to at = record { index = at.index; from = omega (arith, at.from); before = omega (arith, at.before); marked = at.marked }

-- no bit of these words
zero_at : (n i : ℕ) → get_or (replicate n zero) i zero ≡ zero
zero_at zero i = refl
zero_at (suc n) zero = refl
zero_at (suc n) (suc i) = zero_at n i

pub none_at : (marks : List ℕ) (words n : ℕ) → marks ≡ replicate words 0 → is_marked marks n ≡ false
none_at marks words n zeros = unmarked marks n
    (ap (λ (m : List ℕ). bit_at (slice_index m (n / 64)) (n % 64)) zeros ∙ ap (λ (w : ℕ). bit_at w (n % 64)) (zero_at words (n / 64)) ∙ bit_at-zero (n % 64))

-- ---- a row of a view

pub row_within : (row height width end size : ℕ) → row < height → end ≤ width → size ≡ width * height → row * width + end ≤ size
row_within row height width end size here most whole =
    let below : row + 1 ≤ height = omega arith in
    let all : (row + 1) * width ≤ height * width = mul-le-mul below (same_width width) in
    omega (arith, mul_comm height width)

pub row_fits : (width height row end : ℕ) → row < height → end ≤ width → row * width + end ≤ 64 * words_for (width * height)
row_fits width height row end here most =
    let fits : row * width + end ≤ width * height = row_within row height width end (width * height) here most refl in
    words_hold (width * height) (row * width + end) fits where
      words_hold : (area n : ℕ) → n ≤ area → n ≤ 64 * (area / 64 + 1)
      words_hold area n few = omega arith

pub row_small : (width height row end : ℕ) → width ≤ most_pixels → height ≤ most_pixels → row < height → end ≤ width → row * width + end ≤ 2 ^ 20
row_small width height row end wide high here most =
    let fits : row * width + end ≤ width * height = row_within row height width end (width * height) here most refl in
    let area : width * height ≤ 2 ^ 20 = area_most width height wide high in
    omega (arith, fits, area)
