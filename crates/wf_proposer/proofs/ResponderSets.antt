-- The bits of the counted nodes, as a set.
use Rattle.std.proofs.Common.{◌≡◌, ℕ, zero, suc, ◌+◌, ◌-◌, ◌*◌, ◌/◌, ◌%◌, ◌^◌, ◌<◌, ◌≤◌, Bool, true, false, ◌||◌, ◌==◌, if◌then◌else◌, bit_and, bit_or, count_ones, refl, sym, ap, subst, ◌∙◌, inl, inr, arith, mod-eq_of_lt, pow_mono, w64}
use Rattle.std.proofs.lemmas.Bool.{cases_eq, eq-eqb, ne_eqb}
use Rattle.std.proofs.lemmas.Nat.{and_mask, mod-pow-add, mod_below, one_shl, ones-le, ones_cat, pow_pos, zero_from_ones}
use Rattle.std.proofs.lemmas.Nat.Bits.{bit_at_set_other, bit_at_set_same, bit_at-lt, bit_at-zero, shr_and_one}
use Rattle.std.proofs.Math.Path.{fun_ext}
use Rattle.std.specs.Int.{bit_at}
use Rattle.wf_ballot.specs.Majority.{count_nodes}
use Rattle.wf_model.specs.VolatileState.{and_node, nobody}
use Rattle.wf_proposer.specs.Responders.{among}

-- ---- no nodes

among-nobody-at : (i : ℕ) → among 0 i ≡ nobody i
unfolding among nobody
among-nobody-at i = ap (λ bit. bit == 1) (bit_at-zero i)

pub among-nobody : among 0 ≡ nobody
among-nobody = fun_ext among-nobody-at

-- ---- one node

-- a shift brings the node's bit to the lowest place
pub bit_is_read : (mask i : ℕ) → (bit_and (mask / 2 ^ i) 1 == 1) ≡ among mask i
unfolding among
bit_is_read mask i = ap (λ bit. bit == 1) (shr_and_one mask i)

or-true : (a b : Bool) → a ≡ true → (a || b) ≡ true
or-true a b e = ap (λ x. x || b) e

or-false : (a b : Bool) → a ≡ false → (a || b) ≡ b
or-false a b e = ap (λ x. x || b) e

bit_is_set-at : (mask i j : ℕ) → i < 64 → among (bit_or mask (1 * 2 ^ i % 2 ^ 64)) j ≡ and_node (among mask) i j
unfolding among and_node
bit_is_set-at mask i j within = elim (cases_eq j i) as (λ _. (bit_at (bit_or mask (1 * 2 ^ i % 2 ^ 64)) j == 1) ≡ ((j == i) || (bit_at mask j == 1))) [
  | inl same ↦
      subst (λ k. (bit_at (bit_or mask (1 * 2 ^ i % 2 ^ 64)) k == 1) ≡ ((k == i) || (bit_at mask k == 1))) (sym same)
      (eq-eqb _ 1 (bit_at_set_same w64 mask i within) ∙ sym (or-true (i == i) (bit_at mask i == 1) (eq-eqb i i refl)))
  | inr other ↦
      ap (λ bit. bit == 1) (bit_at_set_other w64 mask i within j other) ∙ sym (or-false (j == i) (bit_at mask j == 1) (ne_eqb j i other))
]

-- the node whose bit is set is one more node
pub bit_is_set : (mask i : ℕ) → i < 64 → among (bit_or mask (1 * 2 ^ i % 2 ^ 64)) ≡ and_node (among mask) i
bit_is_set mask i within = fun_ext (λ j. bit_is_set-at mask i j within)

-- ---- the count of the first nodes

one_of_one : count_ones 1 ≡ 1
one_of_one = elim (cases_eq (count_ones 1) 0) as (λ _. count_ones 1 ≡ 1) [
  | inl none ↦ absurd (omega (arith, zero_from_ones 1 none))
  | inr some ↦ omega (arith, some, ones-le 1 1 (omega arith))
]

ones_of_bit : (bit : ℕ) → bit < 2 → count_ones bit ≡ (if bit == 1 then 1 else 0)
ones_of_bit zero small = omega (arith, ones-le 0 0 (omega arith))
ones_of_bit (suc zero) small = one_of_one
ones_of_bit (suc (suc n)) small = absurd (omega (arith, small))

-- the low n bits count the nodes below n
low_bits_count : (mask n : ℕ) → count_ones (mask % 2 ^ n) ≡ count_nodes n (among mask)
unfolding count_nodes among
low_bits_count mask zero =
    let none : mask % 2 ^ 0 ≡ 0 = omega arith in
    ap count_ones none ∙ ones_of_bit 0 (omega arith)
low_bits_count mask (suc n) =
    let wider : suc n ≡ 1 + n = omega arith in
    let more : mask % 2 ^ (1 + n) ≡ bit_at mask n * 2 ^ n + mask % 2 ^ n = mod-pow-add mask 1 n in
    let low : mask % 2 ^ n < 2 ^ n = mod_below mask (2 ^ n) (pow_pos n) in
    let parts = ones_cat n (bit_at mask n) (mask % 2 ^ n) low in
    let top = ones_of_bit (bit_at mask n) (bit_at-lt mask n) in
    let rest = low_bits_count mask n in
    let sum : count_ones (bit_at mask n * 2 ^ n + mask % 2 ^ n) ≡ count_nodes n (among mask) + (if bit_at mask n == 1 then 1 else 0) = omega (arith, parts, top, rest) in
    ap (λ k. count_ones (mask % 2 ^ k)) wider ∙ ap count_ones more ∙ sum

pub bits_are_counted : (mask n first : ℕ) → bit_and mask first ≡ mask % 2 ^ n → count_ones (bit_and mask first) ≡ count_nodes n (among mask)
bits_are_counted mask n first is = ap count_ones is ∙ low_bits_count mask n

-- ---- the bits of the first nodes

pub shifted_one : (n : ℕ) → n < 64 → 1 ≤ 1 * 2 ^ n % 2 ^ 64
shifted_one n within = omega (arith, one_shl n 64 within, pow_pos n)

pub low_bits : (mask n : ℕ) → n < 64 → bit_and mask (1 * 2 ^ n % 2 ^ 64 - 1) ≡ mask % 2 ^ n
low_bits mask n within = ap (λ one. bit_and mask (one - 1)) (one_shl n 64 within) ∙ and_mask mask n

pub all_bits : (mask n : ℕ) → mask < 2 ^ 64 → 64 ≤ n → bit_and mask 18446744073709551615 ≡ mask % 2 ^ n
all_bits mask n small many =
    and_mask mask 64 ∙ mod-eq_of_lt small ∙ sym (mod-eq_of_lt (omega (arith, small, pow_mono many)))
