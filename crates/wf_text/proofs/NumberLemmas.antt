-- Lemmas on what digits spell, and on powers of ten.
use Rattle.std.proofs.Common.{◌≡◌, ℕ, ◌+◌, ◌-◌, ◌*◌, ◌/◌, ◌^◌, ◌<◌, ◌≤◌, List, length, take, get_or, arith, min}
use Rattle.std.proofs.Math.Nat.{pow-le-pow_right, mul-le-mul_left, div-div-eq-div-mul}
use Rattle.std.proofs.lemmas.Grind.{pow_more}
use Rattle.std.proofs.lemmas.List.Sums.{fold_more}
use Rattle.wf_text.specs.Number.{spelled_onto}

-- one more digit
pub spelled_onto-more : (value : ℕ) (digits : List ℕ) (i : ℕ) → i < length digits
    → spelled_onto value (take (i + 1) digits) ≡ spelled_onto value (take i digits) * 10 + (get_or digits i 0 - 48)
spelled_onto-more value digits i h = fold_more (λ v b. v * 10 + (b - 48)) value digits i 0 h

-- one more digit fits where all of them would: a byte is less than 208 above `0`
pub spelled_room : (spelled value d i n most : ℕ) → spelled + 23 ≤ (value + 23) * 10 ^ i → d ≤ 207 → i < n → (value + 23) * 10 ^ n ≤ most
    → (spelled * 10 + d + 23 ≤ (value + 23) * 10 ^ (i + 1)) × (spelled * 10 + d + 23 ≤ most)
spelled_room spelled value d i n most bound digit inside room =
    let longer : 10 ^ (i + 1) ≤ 10 ^ n = pow-le-pow_right (omega arith) (omega arith) in
    let all : (value + 23) * 10 ^ (i + 1) ≤ (value + 23) * 10 ^ n = mul-le-mul_left (value + 23) longer in
    let split : (value + 23) * 10 ^ (i + 1) ≡ (value + 23) * 10 ^ i * 10 = rw pow_more (omega arith) in
    let here : spelled * 10 + d + 23 ≤ (value + 23) * 10 ^ (i + 1) = omega arith in
    (here, omega arith)

-- one more factor of ten, under a limit
pub capped_product-more : (value i most : ℕ) → min (min (value * 10 ^ i) most * 10) most ≡ min (value * 10 ^ (i + 1)) most
capped_product-more value i most = rw pow_more (omega arith)

-- one more division by ten
pub capped_quotient-more : (value i : ℕ) → value / 10 ^ i / 10 ≡ value / 10 ^ (i + 1)
capped_quotient-more value i = rw pow_more (div-div-eq-div-mul value (10 ^ i) 10)

-- the digits after the point fit together with those before it
pub fraction_room : (spelled whole fraction : ℕ) → spelled + 23 ≤ (0 + 23) * 10 ^ whole → whole ≤ 9 → fraction ≤ 25 → (spelled + 23) * 10 ^ fraction ≤ 2 ^ 128
fraction_room spelled whole fraction bound nine many =
    let before : 10 ^ whole ≤ 10 ^ 9 = pow-le-pow_right (omega arith) nine in
    let behind : 10 ^ fraction ≤ 10 ^ 25 = pow-le-pow_right (omega arith) many in
    let spelled_most : spelled + 23 ≤ 23_000_000_000 = omega arith in
    let scaled_most : (spelled + 23) * 10 ^ fraction ≤ (spelled + 23) * 10 ^ 25 = mul-le-mul_left (spelled + 23) behind in
    omega arith

-- a few digits after the point fit into 64 bits together with those before it
pub few_room : (spelled whole fraction : ℕ) → spelled + 23 ≤ (0 + 23) * 10 ^ whole → whole ≤ 9 → fraction ≤ 8 → (spelled + 23) * 10 ^ fraction ≤ 2 ^ 64
few_room spelled whole fraction bound nine few =
    let before : 10 ^ whole ≤ 10 ^ 9 = pow-le-pow_right (omega arith) nine in
    let behind : 10 ^ fraction ≤ 10 ^ 8 = pow-le-pow_right (omega arith) few in
    let spelled_most : spelled + 23 ≤ 23_000_000_000 = omega arith in
    let scaled_most : (spelled + 23) * 10 ^ fraction ≤ (spelled + 23) * 10 ^ 8 = mul-le-mul_left (spelled + 23) behind in
    omega arith
