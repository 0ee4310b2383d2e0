-- The bits of up to 64 neighbouring pixels, cut out of two words.
use Rattle.std.proofs.Common.{◌≡◌, ℕ, ◌+◌, ◌-◌, ◌*◌, ◌/◌, ◌%◌, ◌^◌, ◌<◌, ◌≤◌, inl, inr, false, max, List, slice_index, bit_or, sym, ap, ◌∙◌, arith}
use Rattle.std.specs.Int.{bit_at}
use Rattle.std.proofs.lemmas.Bool.{cases_lt}
use Rattle.std.proofs.lemmas.Nat.{shr-shr, pow_pos}
use Rattle.std.proofs.lemmas.Nat.Bits.{bit_at-zero, bit_at_or, bit_at_cat_low, bit_at_cat_high}
use Rattle.wf_paint.specs.Cells.{is_free}
use Rattle.wf_paint.proofs.CellsLemmas.{is_free-clear}

-- the lower bits of a number are those of what is left of it in 64 bits
bit_of_word : (n i : ℕ) → i < 64 → bit_at (n % 2 ^ 64) i ≡ bit_at n i
bit_of_word n i below =
    let whole : n / 2 ^ 64 * 2 ^ 64 + n % 2 ^ 64 ≡ n = omega arith in
    sym (bit_at_cat_low (n / 2 ^ 64) 64 (n % 2 ^ 64) i below) ∙ ap (λ (m : ℕ). bit_at m i) whole

-- a bit moved up
bit_moved : (n up i : ℕ) → up + i < 64 → bit_at (n * 2 ^ up % 2 ^ 64) (up + i) ≡ bit_at n i
bit_moved n up i below =
    let plain : n * 2 ^ up + 0 ≡ n * 2 ^ up = omega arith in
    let index : up + i - up ≡ i = omega arith in
    let some : 0 < 2 ^ up = pow_pos up in
    bit_of_word (n * 2 ^ up) (up + i) below ∙ ap (λ (m : ℕ). bit_at m (up + i)) (sym plain) ∙ bit_at_cat_high n up 0 (up + i) some (omega arith) ∙ ap (bit_at n) index

left_least : (a b c : ℕ) → a ≡ max b c → b ≤ a
left_least a b c is = omega arith

right_least : (a b c : ℕ) → a ≡ max b c → c ≤ a
right_least a b c is = omega arith

module _ (first last bit : ℕ) (within : bit < 64) where
  abbrev both : ℕ
  both = bit_or (first / 2 ^ bit) (last * 2 ^ 1 % 2 ^ 64 * 2 ^ (63 - bit) % 2 ^ 64)

  pub joined_first : (k : ℕ) → bit + k < 64 → bit_at first (bit + k) ≤ bit_at both k
  joined_first k below =
      let same : bit_at (first / 2 ^ bit) k ≡ bit_at first (bit + k) = ap (λ (n : ℕ). n % 2) (shr-shr first bit k) in
      rw same at (left_least _ _ _ (bit_at_or (first / 2 ^ bit) (last * 2 ^ 1 % 2 ^ 64 * 2 ^ (63 - bit) % 2 ^ 64) k))

  pub joined_last : (k : ℕ) → 64 ≤ bit + k → k < 64 → bit_at last (bit + k - 64) ≤ bit_at both k
  joined_last k from below =
      let j : ℕ = bit + k - 64 in
      let index : 63 - bit + (1 + j) ≡ k = omega arith in
      let up : bit_at (last * 2 ^ 1 % 2 ^ 64 * 2 ^ (63 - bit) % 2 ^ 64) (63 - bit + (1 + j)) ≡ bit_at last j =
      bit_moved (last * 2 ^ 1 % 2 ^ 64) (63 - bit) (1 + j) (omega arith) ∙ bit_moved last 1 j (omega arith) in
      let same : bit_at (last * 2 ^ 1 % 2 ^ 64 * 2 ^ (63 - bit) % 2 ^ 64) k ≡ bit_at last j = rw index at up in
      rw same at (right_least _ _ _ (bit_at_or (first / 2 ^ bit) (last * 2 ^ 1 % 2 ^ 64 * 2 ^ (63 - bit) % 2 ^ 64) k))

-- no bit is set where none is left after the others were moved out
clear_below : (bits count k : ℕ) → count ≤ 64 → k < count → bits * 2 ^ (64 - count) % 2 ^ 64 ≡ 0 → bit_at bits k ≡ 0
clear_below bits count k most below none =
    sym (bit_moved bits (64 - count) k (omega arith)) ∙ ap (λ (n : ℕ). bit_at n (64 - count + k)) none ∙ bit_at-zero (64 - count + k)

-- what a window without a set bit shows isn't free
pub window_painted : (free : List ℕ) (start end bits : ℕ) → start < end → end - start ≤ 64 →
    ((k : ℕ) → start % 64 + k < 64 → bit_at (slice_index free (start / 64)) (start % 64 + k) ≤ bit_at bits k) →
    ((k : ℕ) → 64 ≤ start % 64 + k → k < 64 → bit_at (slice_index free ((end - 1) / 64)) (start % 64 + k - 64) ≤ bit_at bits k) →
    bits * 2 ^ (64 - (end - start)) % 2 ^ 64 ≡ 0 → (i : ℕ) → start ≤ i → i < end → is_free free i ≡ false
window_painted free start end bits order most first last none i from to =
    let k : ℕ = i - start in
    let clear : bit_at bits k ≡ 0 = clear_below bits (end - start) k most (omega arith) none in
    elim (cases_lt (start % 64 + k) 64) [
      | inl below ↦
          let word : i / 64 ≡ start / 64 = omega arith in
          let index : i % 64 ≡ start % 64 + k = omega arith in
          let low : bit_at (slice_index free (start / 64)) (start % 64 + k) ≡ 0 = omega (arith, first k below, clear) in
          is_free-clear free i (ap (λ (w : ℕ). bit_at (slice_index free w) (i % 64)) word ∙ ap (bit_at (slice_index free (start / 64))) index ∙ low)
      | inr above ↦
          let word : i / 64 ≡ (end - 1) / 64 = omega arith in
          let index : i % 64 ≡ start % 64 + k - 64 = omega arith in
          let high : bit_at (slice_index free ((end - 1) / 64)) (start % 64 + k - 64) ≡ 0 = omega (arith, last k above (omega arith), clear) in
          is_free-clear free i (ap (λ (w : ℕ). bit_at (slice_index free w) (i % 64)) word ∙ ap (bit_at (slice_index free ((end - 1) / 64))) index ∙ high)
    ]
