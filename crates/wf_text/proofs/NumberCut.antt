-- The spelling of a number's parts is cut into those parts.
use Rattle.std.proofs.Common.{◌≡◌, ℕ, suc, ◌+◌, ◌≤◌, Bool, true, false, eqb, List, [], ◌∷◌, ◌++◌, length, Option, Some, None, Ok, Err, cond, refl, sym, ap, ◌∙◌, arith}
use Rattle.std.specs.Prelude.{ℤ}
use Rattle.std.specs.Char.{is_ascii_digit}
use Rattle.std.specs.List.{list_all, prefix_len}
use Rattle.std.proofs.lemmas.Bool.{ne_eqb, lt-ltb, le-leb, and_parts, and_from, or_parts, or_from}
use Rattle.std.proofs.lemmas.Bool.Decides.{nat_tests}
use Rattle.wf_text.specs.declared.fault.NumberFault.TheVariants.{BadNumber, OutOfRange}
use Rattle.wf_text.specs.Number.{Numeral, is_negative, is_sign, after_sign, leading_digits, after_digits, fraction_digits, after_fraction, spelled_onto, with_sign, is_power_digits, signed_power, power_of, numeral, in_range, number}
use Rattle.wf_text.specs.NumberForm.{Sign, Unsigned, Plus, Minus, sign_text, is_minus, Fraction, NoPoint, WithPoint, fraction_text, behind_point, SmallE, CapitalE, NumberEnding, NoPower, WithPower, ending_text, power_of_ten, Written, text_of, parts_of, AreDigits, ArePowerDigits, IsNumberEnding, AreDigitsWritten, HasParts}
use Rattle.wf_text.proofs.NumberJoined.{has_parts}

-- the text's first byte, if there is one, passes the test
abbrev begins : (ℕ → Bool) → List ℕ → Bool
begins test [] = false
begins test (b ∷ rest) = test b

-- ---- digits

record IsCut (text digits tail : List ℕ) : Type 0 where
  front : leading_digits text ≡ digits
  rest : after_digits text ≡ tail

digits_are_cut : (digits tail : List ℕ) → AreDigits digits → begins is_ascii_digit tail ≡ false → IsCut (digits ++ tail) digits tail
digits_are_cut [] [] e ends = record { front = refl; rest = refl }
digits_are_cut [] (b ∷ tail) e ends = record { front = rw ends refl; rest = rw ends refl }
digits_are_cut (d ∷ digits) tail e ends =
    let each = and_parts (is_ascii_digit d) (list_all is_ascii_digit digits) e in
    let others = digits_are_cut digits tail each.1 ends in
    let digit : is_ascii_digit d ≡ true = each.0 in
    let next : 1 + prefix_len is_ascii_digit (digits ++ tail) ≡ suc (prefix_len is_ascii_digit (digits ++ tail)) = omega arith in
    record { front = rw (digit, next) (ap (λ (bytes : List ℕ). d ∷ bytes) others.front); rest = rw (digit, next) others.rest }

-- ---- the sign

record IsSignCut (sign : Sign) (tail : List ℕ) : Type 0 where
  minus : is_negative (sign_text sign ++ tail) ≡ is_minus sign
  rest : after_sign (sign_text sign ++ tail) ≡ tail

sign_is_cut : (sign : Sign) (tail : List ℕ) → begins is_sign tail ≡ false → IsSignCut sign tail
sign_is_cut Unsigned [] e = record { minus = refl; rest = refl }
sign_is_cut Unsigned (b ∷ tail) e =
    let neither = or_parts (eqb b 45) (eqb b 43) e in
    record { minus = neither.0; rest = rw (neither.0, neither.1) refl }
sign_is_cut Plus tail e = record { minus = refl; rest = refl }
sign_is_cut Minus tail e = record { minus = refl; rest = refl }

digit_is_no_sign : (b : ℕ) → is_ascii_digit b ≡ true → is_sign b ≡ false
digit_is_no_sign b digit =
    let minus : eqb b 45 ≡ false = grind (arith, nat_tests) in
    let plus : eqb b 43 ≡ false = grind (arith, nat_tests) in
    or_from _ _ minus plus

digits_begin_with_no_sign : (digits : List ℕ) → AreDigits digits → 1 ≤ length digits → begins is_sign digits ≡ false
digits_begin_with_no_sign [] e least = absurd (omega arith)
digits_begin_with_no_sign (d ∷ digits) e least = digit_is_no_sign d (and_parts (is_ascii_digit d) (list_all is_ascii_digit digits) e).0

-- what follows a number's sign begins with a digit or a point
behind_sign_no_sign : (whole : List ℕ) (fraction : Fraction) (ending : List ℕ) → AreDigits whole → 1 ≤ length whole + length (behind_point fraction)
    → begins is_sign (whole ++ (fraction_text fraction ++ ending)) ≡ false
behind_sign_no_sign (d ∷ whole) fraction ending e least = digit_is_no_sign d (and_parts (is_ascii_digit d) (list_all is_ascii_digit whole) e).0
behind_sign_no_sign [] (WithPoint digits) ending e least = refl
behind_sign_no_sign [] NoPoint ending e least = absurd (omega arith)

-- ---- the power of ten

is_power_digits-true : (digits : List ℕ) → ArePowerDigits digits → is_power_digits digits ≡ true
is_power_digits-true digits p = and_from _ _ (and_from _ _ (lt-ltb _ _ p.least) (le-leb _ _ p.most)) p.digits

signed_power_is_read : (sign : Sign) (digits : List ℕ) → ArePowerDigits digits → signed_power (sign_text sign ++ digits) ≡ Some (with_sign (is_minus sign) (spelled_onto 0 digits))
signed_power_is_read sign digits p =
    let cut = sign_is_cut sign digits (digits_begin_with_no_sign digits p.digits p.least) in
    rw (cut.rest, cut.minus, is_power_digits-true digits p) refl

power_is_read : (ending : NumberEnding) → IsNumberEnding ending → power_of (ending_text ending) ≡ Some (power_of_ten ending)
power_is_read NoPower p = refl
power_is_read (WithPower SmallE sign digits) p = signed_power_is_read sign digits p
power_is_read (WithPower CapitalE sign digits) p = signed_power_is_read sign digits p

-- ---- the fraction

ending_begins_with_no_digit : (ending : NumberEnding) → begins is_ascii_digit (ending_text ending) ≡ false
ending_begins_with_no_digit NoPower = refl
ending_begins_with_no_digit (WithPower SmallE sign digits) = refl
ending_begins_with_no_digit (WithPower CapitalE sign digits) = refl

record IsFractionCut (fraction : Fraction) (ending : NumberEnding) : Type 0 where
  digits : fraction_digits (fraction_text fraction ++ ending_text ending) ≡ behind_point fraction
  rest : after_fraction (fraction_text fraction ++ ending_text ending) ≡ ending_text ending

fraction_is_cut : (fraction : Fraction) (ending : NumberEnding) → AreDigits (behind_point fraction) → IsFractionCut fraction ending
fraction_is_cut NoPoint NoPower e = record { digits = refl; rest = refl }
fraction_is_cut NoPoint (WithPower SmallE sign digits) e = record { digits = refl; rest = refl }
fraction_is_cut NoPoint (WithPower CapitalE sign digits) e = record { digits = refl; rest = refl }
fraction_is_cut (WithPoint digits) ending e =
    let cut = digits_are_cut digits (ending_text ending) e (ending_begins_with_no_digit ending) in
    record { digits = cut.front; rest = cut.rest }

fraction_begins_with_no_digit : (fraction : Fraction) (ending : NumberEnding) → begins is_ascii_digit (fraction_text fraction ++ ending_text ending) ≡ false
fraction_begins_with_no_digit NoPoint ending = ending_begins_with_no_digit ending
fraction_begins_with_no_digit (WithPoint digits) ending = refl

-- ---- all parts

written_is_cut : (w : Written) → AreDigitsWritten w → numeral (text_of w) ≡ Some (parts_of w)
unfolding numeral
written_is_cut w h =
    let behind_whole : List ℕ = fraction_text w.fraction ++ ending_text w.ending in
    let sign = sign_is_cut w.sign (w.whole ++ behind_whole) (behind_sign_no_sign w.whole w.fraction (ending_text w.ending) h.whole h.least) in
    let whole = digits_are_cut w.whole behind_whole h.whole (fraction_begins_with_no_digit w.fraction w.ending) in
    let fraction = fraction_is_cut w.fraction w.ending h.fraction in
    let some : eqb (length w.whole + length (behind_point w.fraction)) 0 ≡ false = ne_eqb _ _ (λ (e : length w.whole + length (behind_point w.fraction) ≡ 0). omega (arith, h.least)) in
    rw (sign.minus, sign.rest, whole.front, whole.rest, fraction.digits, fraction.rest, power_is_read w.ending h.ending, some) refl

pub parts_are_cut : (text : List ℕ) (parts : Numeral) → HasParts text parts → numeral text ≡ Some parts
parts_are_cut text parts h = ap numeral (sym h.spells) ∙ written_is_cut h.written h.is_written ∙ ap Some h.sends

-- ---- what the text means

pub means_its_parts : (text : List ℕ) (parts : Numeral) → HasParts text parts → number text ≡ in_range parts
unfolding number
means_its_parts text parts h = rw (parts_are_cut text parts h) refl

out_of_range_or_read : (is_out : Bool) (millionths : ℤ) → cond is_out (Err OutOfRange) (Ok millionths) ≡ Err BadNumber → ⊥
out_of_range_or_read true millionths e = cc
out_of_range_or_read false millionths e = cc

in_range-not_bad : (parts : Numeral) → in_range parts ≡ Err BadNumber → ⊥
unfolding in_range
in_range-not_bad parts e = out_of_range_or_read _ _ e

pub bad_has_no_parts : (text : List ℕ) → number text ≡ Err BadNumber → (parts : Numeral) → HasParts text parts → ⊥
bad_has_no_parts text bad parts h = in_range-not_bad parts (sym (means_its_parts text parts h) ∙ bad)

bad_by_numeral : (text : List ℕ) (cut : Option Numeral) → numeral text ≡ cut → ((parts : Numeral) → HasParts text parts → ⊥) → number text ≡ Err BadNumber
unfolding number
bad_by_numeral text None e none = rw e refl
bad_by_numeral text (Some parts) e none = absurd (none parts (has_parts text parts e))

pub without_parts_bad : (text : List ℕ) → ((parts : Numeral) → HasParts text parts → ⊥) → number text ≡ Err BadNumber
without_parts_bad text none = bad_by_numeral text (numeral text) refl none
