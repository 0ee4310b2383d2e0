-- Writing the digits of a fraction, one after the other.
use Rattle.std.proofs.Common.{◌≡◌, ◌≢◌, ℕ, zero, suc, ◌+◌, ◌-◌, ◌/◌, ◌%◌, ◌^◌, ◌<◌, ◌≤◌, [], ◌∷◌, ap, ◌∙◌, arith, lit<}
use Rattle.std.proofs.Math.Nat.{one-le-pow}
use Rattle.std.proofs.lemmas.Nat.{mod_below}
use Rattle.wf_text.specs.NumberText.{fraction_digits}
use Rattle.wf_text.specs.NumberTextTheorems.{fraction_digits-zero, fraction_digits-suc}

-- the first digit, followed by those of the rest
pub next_digit : (places parts unit : ℕ) → 0 < places → parts ≢ 0 → unit ≡ 10 ^ (places - 1)
    → fraction_digits places parts ≡ (48 + parts / unit) ∷ fraction_digits (places - 1) (parts % unit)
next_digit places parts unit lt h e =
    let k : places ≡ suc (places - 1) = omega arith in
    ap (λ (n : ℕ). fraction_digits n parts) k ∙ rw e (fraction_digits-suc (places - 1) parts h)

-- the rest is below the unit of the next digit
pub rest_below : (parts places unit : ℕ) → unit ≡ 10 ^ places → parts % unit < 10 ^ places
rest_below parts places unit e = rw e (mod_below parts (10 ^ places) (one-le-pow places 10 (lit< tt)))

-- nothing is left
pub no_digits : (places parts : ℕ) → parts ≡ 0 → fraction_digits places parts ≡ []
no_digits places parts e = ap (fraction_digits places) e ∙ fraction_digits-zero places

pub no_place_left : (parts places : ℕ) → places ≤ 0 → parts < 10 ^ places → parts ≡ 0
no_place_left parts zero le lt = omega arith
no_place_left parts (suc places) le lt = absurd (omega arith)
