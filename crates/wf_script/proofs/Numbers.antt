-- A number of few digits is a small one.
use Rattle.std.proofs.Common.{◌≡◌, ℕ, ◌+◌, ◌-◌, ◌*◌, ◌<◌, ◌≤◌, ◌^◌, true, suc, List, [], ◌∷◌, length, arith, min, subst}
use Rattle.std.specs.Char.{is_ascii_digit}
use Rattle.std.specs.List.{fold, list_all}
use Rattle.std.proofs.Math.Nat.{pow-succ', pow-le-pow_right}
use Rattle.std.proofs.lemmas.Bool.{and_parts}
use Rattle.std.proofs.lemmas.Bool.Decides.{nat_tests}
use Rattle.std.proofs.lemmas.Grind.{common_steps}
use Rattle.wf_script.specs.Words.{value}

digit_is_small : (digit : ℕ) → is_ascii_digit digit ≡ true → digit - 48 < 10
digit_is_small digit is = grind (arith, nat_tests, common_steps)

-- digits appended to a number below a power of ten give one below a greater power
below_power : (n k : ℕ) (digits : List ℕ) → n < 10 ^ k → list_all is_ascii_digit digits ≡ true → fold (λ n digit. 10 * n + (digit - 48)) n digits < 10 ^ (k + length digits)
below_power n k [] small all =
    let same : k ≡ k + 0 = omega arith in
    subst (λ m. n < 10 ^ m) same small
below_power n k (digit ∷ digits) small all =
    let parts = and_parts (is_ascii_digit digit) (list_all is_ascii_digit digits) all in
    let one = digit_is_small digit parts.0 in
    let power = pow-succ' 10 k in
    let more : 10 * n + (digit - 48) < 10 ^ suc k = omega (arith, small, one, power) in
    let same : suc k + length digits ≡ k + length (digit ∷ digits) = omega arith in
    subst (λ m. fold (λ n digit. 10 * n + (digit - 48)) (10 * n + (digit - 48)) digits < 10 ^ m) same (below_power (10 * n + (digit - 48)) (suc k) digits more parts.1)

pub few_digits : (digits : List ℕ) → list_all is_ascii_digit digits ≡ true → length digits ≤ 9 → min (value digits) (2 ^ 64 - 1) ≡ value digits
few_digits digits all few =
    let small = below_power 0 0 digits (omega arith) all in
    let same : 0 + length digits ≤ 9 = omega (arith, few) in
    let more = pow-le-pow_right {n = 10} (omega arith) same in
    omega (arith, small, more)
