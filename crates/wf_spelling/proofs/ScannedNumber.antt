-- The digits of a number, one after the other, are those that are written.
use Rattle.std.proofs.lemmas.Int.{to_z_pos, to_z-of_z}
use Rattle.std.proofs.Common.{to_z, of_z, w64, rules, subst, ◌≡◌, ◌≢◌, ℕ, zero, suc, ◌+◌, ◌-◌, ◌*◌, ◌/◌, ◌%◌, ◌^◌, ◌<◌, ◌≤◌, [], ◌∷◌, ◌++◌, refl, ap, sym, ◌∙◌, lit<, arith}
use Rattle.std.specs.Prelude.{ℤ, pos, negsuc, neg_ℤ, ◌-ℤ◌}
use Rattle.std.specs.Fmt.{decimal}
use Rattle.std.proofs.lemmas.Fmt.{decimal_digit, decimal_step}
use Rattle.std.proofs.lemmas.Bool.{ne_eqb}
use Rattle.std.proofs.lemmas.Nat.{div-mul-add, mod-mul-add}
use Rattle.std.proofs.Math.Nat.{one-le-pow, pow-suc}
use Rattle.wf_text.specs.NumberText.{fraction_digits, fraction_text, magnitude_text, number_text}
use Rattle.wf_text.specs.NumberTextTheorems.{fraction_digits-zero, fraction_digits-suc}
use Rattle.wf_spelling.specs.declared.scan.cursor.Cursor.{Cursor}
use Rattle.wf_spelling.specs.Scan.{Scans}
use Rattle.wf_spelling.proofs.ScanSequences.{both, same}

-- one digit behind an integer that isn't zero
pub next_digit : (whole digit : ℕ) → 0 < whole → whole < 100000000 → digit < 10 → decimal (whole * 10 + digit) ≡ decimal whole ++ (48 + digit) ∷ []
next_digit whole digit least most below =
    let quotient : (whole * 10 + digit) / 10 ≡ whole = omega arith in
    let rest : (whole * 10 + digit) % 10 ≡ digit = omega arith in
    let step : decimal (whole * 10 + digit) ≡ decimal ((whole * 10 + digit) / 10) ++ (48 + (whole * 10 + digit) % 10) ∷ [] = decimal_step (whole * 10 + digit) (omega arith) (omega arith) in
    rw (quotient, rest) at step

pub first_digit : {a b : Cursor} (digit : ℕ) → digit < 10 → Scans a ((48 + digit) ∷ []) b → Scans a (decimal digit) b
first_digit digit below scanned = same scanned (sym (decimal_digit digit below))

pub digit_more : {a b c : Cursor} (whole digit : ℕ) → 0 < whole → whole < 100000000 → digit < 10 → Scans a (decimal whole) b → Scans b ((48 + digit) ∷ []) c → Scans a (decimal (whole * 10 + digit)) c
digit_more whole digit least most below before scanned = same (both before scanned) (sym (next_digit whole digit least most below))

-- ---- the fraction

pub no_digits : {a b : Cursor} (places : ℕ) → Scans a [] b → Scans a (fraction_digits places 0) b
no_digits places scanned = same scanned (sym (fraction_digits-zero places))

-- a digit and the digits behind it are those of a fraction, unless all are zero
digit_and_digits : {a b c : Cursor} (before digit behind : ℕ) → behind < 10 ^ before → digit * 10 ^ before + behind ≢ 0
    → Scans a ((48 + digit) ∷ []) b → Scans b (fraction_digits before behind) c → Scans a (fraction_digits (suc before) (digit * 10 ^ before + behind)) c
digit_and_digits before digit behind below some first second =
    let quotient : (digit * 10 ^ before + behind) / 10 ^ before ≡ digit = div-mul-add digit (10 ^ before) behind below in
    let rest : (digit * 10 ^ before + behind) % 10 ^ before ≡ behind = mod-mul-add digit (10 ^ before) behind below in
    let step : fraction_digits (suc before) (digit * 10 ^ before + behind) ≡ (48 + (digit * 10 ^ before + behind) / 10 ^ before) ∷ fraction_digits before ((digit * 10 ^ before + behind) % 10 ^ before) =
    fraction_digits-suc before (digit * 10 ^ before + behind) some in
    same (both first second) (sym (step ∙ rw (quotient, rest) refl))

pub fraction_digit : {a b c : Cursor} (places before digit behind unit : ℕ) → places ≡ suc before → unit ≡ 10 ^ before → behind < 10 ^ before → digit * unit + behind ≢ 0
    → Scans a ((48 + digit) ∷ []) b → Scans b (fraction_digits before behind) c → Scans a (fraction_digits places (digit * unit + behind)) c
fraction_digit places before digit behind unit one_more power below some first second =
    rw (one_more, power) (digit_and_digits before digit behind below (rw power at some) first second)

-- a digit before fewer millionths than its own unit
digit_below : (digit behind unit : ℕ) → digit < 10 → behind < unit → digit * unit + behind < unit * 10
digit_below digit behind unit few below = grind arith

-- not all digits are zero
some_digit : (digit behind unit : ℕ) → behind < unit → digit + behind ≢ 0 → digit * unit + behind ≢ 0
some_digit zero behind unit below some = λ none. some (omega (arith, none))
some_digit (suc digit) behind unit below some = λ none. grind (arith, none, below)

digit_within : (digit parts unit tenth : ℕ) → digit < 10 → unit ≡ tenth * 10 → parts + unit ≤ 1000000 → parts + digit * tenth + tenth ≤ 1000000
digit_within digit parts unit tenth few whole below = grind arith

-- the digits so far, and the millionths of any behind them, are those of a fraction, unless the
-- last digit is zero
pub record IsFraction (start : Cursor) (places unit parts last : ℕ) (now : Cursor) : Type 0 where
  pub behind : (rest : ℕ) (end : Cursor) → rest < unit → last + rest ≢ 0 → Scans now (fraction_digits places rest) end → Scans start (fraction_digits 6 (parts + rest)) end
  pub power : unit ≡ 10 ^ places
  pub below : parts + unit ≤ 1000000

pub fraction_begins : (a : Cursor) → IsFraction a 6 1000000 0 0 a
fraction_begins a = record {
  behind = λ rest end below some scanned. subst (λ (n : ℕ). Scans a (fraction_digits 6 n) end) (omega arith) scanned;
  power = refl;
  below = omega arith;
}

pub fraction_goes_on : {a b c : Cursor} (places unit parts last digit : ℕ) → 0 < places → digit < 10 → IsFraction a places unit parts last b → Scans b ((48 + digit) ∷ []) c
    → IsFraction a (places - 1) (unit / 10) (parts + digit * (unit / 10)) digit c
fraction_goes_on {a = a} {b = b} {c = c} places unit parts last digit some few before scanned =
    let one_more : places ≡ suc (places - 1) = omega (arith, some) in
    let power : unit ≡ 10 ^ (places - 1) * 10 = before.power ∙ ap (λ (n : ℕ). 10 ^ n) one_more ∙ pow-suc 10 (places - 1) in
    let tenth : unit / 10 ≡ 10 ^ (places - 1) = omega (arith, power) in
    let whole : unit ≡ unit / 10 * 10 = omega (arith, power) in
    record {
      behind = λ rest end below is_some more.
          let digits : Scans b (fraction_digits places (digit * (unit / 10) + rest)) end =
          fraction_digit places (places - 1) digit rest (unit / 10) one_more tenth (subst (λ (n : ℕ). rest < n) tenth below) (some_digit digit rest (unit / 10) below is_some) scanned more in
          let within : digit * (unit / 10) + rest < unit = subst (λ (n : ℕ). digit * (unit / 10) + rest < n) (sym whole) (digit_below digit rest (unit / 10) few below) in
          let all = before.behind (digit * (unit / 10) + rest) end within (λ none. some_digit digit rest (unit / 10) below is_some (omega (arith, none))) digits in
          subst (λ (n : ℕ). Scans a (fraction_digits 6 n) end) (omega arith) all;
      power = tenth;
      below = digit_within digit parts unit (unit / 10) few whole before.below;
    }

pub fraction_ends : {a b c : Cursor} (places unit parts last : ℕ) → last ≢ 0 → IsFraction a places unit parts last b → Scans b [] c → Scans a (fraction_digits 6 parts) c
fraction_ends {a = a} {c = c} places unit parts last some before unchanged =
    let all = before.behind 0 c (subst (λ (n : ℕ). 0 < n) (sym before.power) (one-le-pow places 10 (lit< tt))) (λ none. some (omega (arith, none))) (no_digits places unchanged) in
    subst (λ (n : ℕ). Scans a (fraction_digits 6 n) c) (omega arith) all

pub fraction_most : {a b : Cursor} (places unit parts last : ℕ) → IsFraction a places unit parts last b → parts < 1000000
fraction_most places unit parts last before =
    let some : 0 < unit = subst (λ (n : ℕ). 0 < n) (sym before.power) (one-le-pow places 10 (lit< tt)) in
    omega (arith, some, before.below)

pub no_fraction : {a b : Cursor} → Scans a [] b → Scans a (fraction_text 0) b
unfolding fraction_text
no_fraction scanned = scanned

pub some_fraction : {a b c : Cursor} (parts : ℕ) → parts ≢ 0 → Scans a (46 ∷ []) b → Scans b (fraction_digits 6 parts) c → Scans a (fraction_text parts) c
unfolding fraction_text
some_fraction parts some point digits = rw (ne_eqb parts 0 some) (both point digits)

-- ---- the whole

pub whole_and_parts : {a b c : Cursor} (whole parts : ℕ) → parts < 1000000 → Scans a (decimal whole) b → Scans b (fraction_text parts) c → Scans a (magnitude_text (whole * 1000000 + parts)) c
unfolding magnitude_text
whole_and_parts whole parts below first second =
    let quotient : (whole * 1000000 + parts) / 1000000 ≡ whole = omega arith in
    let rest : (whole * 1000000 + parts) % 1000000 ≡ parts = omega arith in
    rw (quotient, rest) (both first second)

pub positive : {a b : Cursor} (millionths : ℕ) → Scans a (magnitude_text millionths) b → Scans a (number_text (pos millionths)) b
unfolding number_text
positive millionths scanned = scanned

pub negative : {a b c : Cursor} (millionths : ℕ) → millionths ≢ 0 → Scans a (45 ∷ []) b → Scans b (magnitude_text millionths) c → Scans a (number_text (neg_ℤ (pos millionths))) c
unfolding number_text
negative zero some sign scanned = absurd (some refl)
negative (suc below) some sign scanned = both sign scanned

-- a magnitude of 64 bits as a number with a sign, and the opposite of it
pub as_number : (n : ℕ) → n < 1000000000000000 → to_z w64 n ≡ pos n
as_number n small = to_z_pos w64 n (omega arith)

opposite : (n : ℕ) → n < 1000000000000000 → to_z w64 (of_z w64 (pos 0 -ℤ pos n)) ≡ neg_ℤ (pos n)
opposite zero small = refl
opposite (suc n) small =
    let below : pos 0 -ℤ pos (suc n) ≡ negsuc n = first_of (search rules, omega arith, grind arith) in
    rw below (to_z-of_z w64 (negsuc n) (search rules))

pub as_opposite : (n : ℕ) → n < 1000000000000000 → to_z w64 (of_z w64 (pos 0 -ℤ to_z w64 n)) ≡ neg_ℤ (pos n)
as_opposite n small = rw (as_number n small) (opposite n small)

pub spelled_as : {a b : Cursor} (z y m : ℤ) → m ≡ y → y ≡ z → Scans a (number_text z) b → Scans a (number_text m) b
spelled_as {a = a} {b = b} z y m is same scanned = subst (λ (n : ℤ). Scans a (number_text n) b) (sym (is ∙ same)) scanned
