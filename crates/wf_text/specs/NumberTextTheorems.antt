-- Reading the text of a number returns that number: the theorem, and the facts about its digits
-- that other crates use.
use Rattle.std.proofs.Common.{◌≡◌, ◌≢◌, ℕ, zero, suc, ◌+◌, ◌-◌, ◌*◌, ◌/◌, ◌%◌, ◌^◌, ◌<◌, ◌≤◌, Bool, true, false, not, ◌⊎◌, eqb, ltb, List, [], ◌∷◌, ◌++◌, length, Option, Some, Ok, refl, sym, ap, ◌∙◌, arith, rules, lit<, inl, inr}
use Rattle.std.specs.Prelude.{ℤ, pos, negsuc, ◌+ℤ◌, ◌-ℤ◌, nat_abs}
use Rattle.std.specs.Char.{is_ascii_digit}
use Rattle.std.specs.List.{list_all, prefix_len}
use Rattle.std.specs.Fmt.{decimal}
use Rattle.std.proofs.lemmas.Bool.{cases_eq, ne_eqb}
use Rattle.std.proofs.lemmas.Bool.Decides.{nat_tests}
use Rattle.std.proofs.lemmas.Grind.{fold-append}
use Rattle.std.proofs.lemmas.List.{append-nil, length-append}
use Rattle.std.proofs.lemmas.Nat.{mod_below, div_below, div-add-mod'}
use Rattle.std.proofs.lemmas.Fmt.{digits_decimal, digits_value-decimal, decimal_nonempty, length-decimal-le}
use Rattle.std.proofs.lemmas.Str.Parse.{IsNumeralModel, IsDigitsTest, FoldsDigits, numerals_by_fold}
use Rattle.std.proofs.Math.Nat.{one-le-pow, pow-suc}
use Rattle.wf_text.specs.Number.{Numeral, is_negative, after_sign, leading_digits, after_digits, spelled_onto, with_sign, power_of, numeral_from, numeral, scale, in_range, number, IsMicro}
use Rattle.wf_text.specs.Number as reading
use Rattle.wf_text.specs.NumberForm.{AreDigits}
use Rattle.wf_text.specs.NumberText.{fraction_digits, fraction_text, magnitude_text, number_text}
use Rattle.wf_text.specs.Booleans.{and_left, and_right, not_true}

digits_test : IsDigitsTest AreDigits
digits_test = search rules

digits_fold : FoldsDigits spelled_onto
digits_fold = search rules

own : IsNumeralModel AreDigits (spelled_onto 0)
own = numerals_by_fold _ digits_test spelled_onto digits_fold

pub are_digits_decimal : (n : ℕ) → n < 2 ^ 64 → AreDigits (decimal n)
are_digits_decimal n lt = digits_decimal own n lt

pub value-decimal : (n : ℕ) → n < 2 ^ 64 → spelled_onto 0 (decimal n) ≡ n
value-decimal n lt = digits_value-decimal own n lt

-- ---- the fraction

pub fraction_digits-zero : (places : ℕ) → fraction_digits places 0 ≡ []
unfolding fraction_digits
fraction_digits-zero zero = refl
fraction_digits-zero (suc places) = refl

pub fraction_digits-suc : (places parts : ℕ) → parts ≢ 0 → fraction_digits (suc places) parts ≡ (48 + parts / 10 ^ places) ∷ fraction_digits places (parts % 10 ^ places)
unfolding fraction_digits
fraction_digits-suc places parts h = rw (ne_eqb parts 0 h) refl

digit_byte : (d : ℕ) → d < 10 → is_ascii_digit (48 + d) ≡ true
digit_byte d lt = grind (arith, nat_tests)

top_digit : (places parts : ℕ) → parts < 10 ^ suc places → parts / 10 ^ places < 10
top_digit places parts lt = div_below parts (10 ^ places) 10 (one-le-pow places 10 (lit< tt)) (omega (arith, lt))

pub are_digits_fraction : (places parts : ℕ) → parts < 10 ^ places → AreDigits (fraction_digits places parts)
unfolding fraction_digits
are_digits_fraction zero parts lt = refl
are_digits_fraction (suc places) parts lt = elim (cases_eq parts 0) [
  | inl e ↦ rw e refl
  | inr ne ↦ rw (ne_eqb parts 0 ne, digit_byte (parts / 10 ^ places) (top_digit places parts lt)) (are_digits_fraction places (parts % 10 ^ places) (mod_below parts (10 ^ places) (one-le-pow places 10 (lit< tt))))
]

-- the digits of n followed by these digits, filled up with zeros to that many digits, spell n and
-- these parts
record Fill (places parts n : ℕ) (ds : List ℕ) : Type 0 where
  short : length ds ≤ places
  value : spelled_onto n ds * 10 ^ (places - length ds) ≡ n * 10 ^ places + parts

no_digits_fill : (places n : ℕ) → Fill places 0 n []
no_digits_fill places n =
    let all : places - 0 ≡ places = omega arith in
    record { short = omega arith; value = rw all (omega arith) }

regroup : (n d unit rest : ℕ) → (n * 10 + d) * unit + rest ≡ n * (unit * 10) + (d * unit + rest)
regroup n d unit rest = grind arith

one_digit_more : (places n d rest : ℕ) (ds : List ℕ) → Fill places rest (n * 10 + d) ds → Fill (suc places) (d * 10 ^ places + rest) n ((48 + d) ∷ ds)
one_digit_more places n d rest ds f =
    let digit : (48 + d) - 48 ≡ d = omega arith in
    let left : suc places - suc (length ds) ≡ places - length ds = omega arith in
    record { short = omega (arith, f.short); value = rw (digit, left, pow-suc 10 places) (f.value ∙ regroup n d (10 ^ places) rest) }

fraction_fills : (places parts n : ℕ) → parts < 10 ^ places → Fill places parts n (fraction_digits places parts)
fraction_fills zero parts n lt =
    let none : parts ≡ 0 = omega arith in
    rw (none, fraction_digits-zero 0) (no_digits_fill 0 n)
fraction_fills (suc places) parts n lt = elim (cases_eq parts 0) [
  | inl e ↦ rw (e, fraction_digits-zero (suc places)) (no_digits_fill (suc places) n)
  | inr ne ↦
      let rest = fraction_fills places (parts % 10 ^ places) (n * 10 + parts / 10 ^ places) (mod_below parts (10 ^ places) (one-le-pow places 10 (lit< tt))) in
      let more = one_digit_more places n (parts / 10 ^ places) (parts % 10 ^ places) (fraction_digits places (parts % 10 ^ places)) rest in
      let split : parts / 10 ^ places * 10 ^ places + parts % 10 ^ places ≡ parts = div-add-mod' parts (10 ^ places) in
      rw (fraction_digits-suc places parts ne) (rw split at more)
]

-- ---- the text is cut into its parts again

-- the text is empty or begins with no digit, so the digits before it end there
abbrev begins_no_digit : List ℕ → Bool
begins_no_digit [] = true
begins_no_digit (b ∷ rest) = not (is_ascii_digit b)

record IsCut (text ds tail : List ℕ) : Type 0 where
  digits : leading_digits text ≡ ds
  rest : after_digits text ≡ tail

digits_are_cut : (ds tail : List ℕ) → AreDigits ds → begins_no_digit tail ≡ true → IsCut (ds ++ tail) ds tail
digits_are_cut [] [] e ends = record { digits = refl; rest = refl }
digits_are_cut [] (b ∷ tail) e ends =
    let other : is_ascii_digit b ≡ false = not_true (is_ascii_digit b) ends in
    record { digits = rw other refl; rest = rw other refl }
digits_are_cut (d ∷ ds) tail e ends =
    let others = digits_are_cut ds tail (and_right (is_ascii_digit d) (list_all is_ascii_digit ds) e) ends in
    let digit : is_ascii_digit d ≡ true = and_left (is_ascii_digit d) (list_all is_ascii_digit ds) e in
    let next : 1 + prefix_len is_ascii_digit (ds ++ tail) ≡ suc (prefix_len is_ascii_digit (ds ++ tail)) = omega arith in
    record { digits = rw (digit, next) (ap (λ (xs : List ℕ). d ∷ xs) others.digits); rest = rw (digit, next) others.rest }

abbrev numeral_with : Bool → List ℕ → List ℕ → Numeral
numeral_with negative whole fraction = record { negative = negative; whole = whole; fraction = fraction; power = pos 0 }

some_digit : (ds : List ℕ) (n : ℕ) → 0 < length ds → eqb (length ds + n) 0 ≡ false
some_digit ds n lt = ne_eqb (length ds + n) 0 (λ e. absurd (omega (arith, e)))

-- the parts of a text after its sign
abbrev parts_of : Bool → List ℕ → Option Numeral
parts_of negative text = numeral_from negative (leading_digits text) (reading.fraction_digits (after_digits text)) (power_of (reading.after_fraction (after_digits text)))

whole_is_cut : (negative : Bool) (ds : List ℕ) → AreDigits ds → 0 < length ds → parts_of negative ds ≡ Some (numeral_with negative ds [])
whole_is_cut negative ds e lt =
    let cut = digits_are_cut ds [] e refl in
    let digits : leading_digits ds ≡ ds = ap leading_digits (sym (append-nil ds)) ∙ cut.digits in
    let rest : after_digits ds ≡ [] = ap after_digits (sym (append-nil ds)) ∙ cut.rest in
    rw (digits, rest, some_digit ds 0 lt) refl

fraction_is_cut : (negative : Bool) (ds fs : List ℕ) → AreDigits ds → AreDigits fs → 0 < length ds → parts_of negative (ds ++ 46 ∷ fs) ≡ Some (numeral_with negative ds fs)
fraction_is_cut negative ds fs e f lt =
    let cut = digits_are_cut ds (46 ∷ fs) e refl in
    let second = digits_are_cut fs [] f refl in
    let digits : leading_digits fs ≡ fs = ap leading_digits (sym (append-nil fs)) ∙ second.digits in
    let rest : after_digits fs ≡ [] = ap after_digits (sym (append-nil fs)) ∙ second.rest in
    rw (cut.digits, cut.rest, digits, rest, some_digit ds (length fs) lt) refl

-- a text that begins with a digit has no sign
record HasNoSign (text : List ℕ) : Type 0 where
  negative : is_negative text ≡ false
  rest : after_sign text ≡ text

digits_have_no_sign : (ds tail : List ℕ) → AreDigits ds → 0 < length ds → HasNoSign (ds ++ tail)
digits_have_no_sign [] tail e lt = absurd (omega arith)
digits_have_no_sign (d ∷ ds) tail e lt =
    let digit : is_ascii_digit d ≡ true = and_left (is_ascii_digit d) (list_all is_ascii_digit ds) e in
    let minus : eqb d 45 ≡ false = grind (arith, nat_tests) in
    let plus : eqb d 43 ≡ false = grind (arith, nat_tests) in
    record { negative = minus; rest = rw (minus, plus) refl }

-- ---- the value

places_left : (k : ℕ) → k ≤ 6 → pos 6 +ℤ pos 0 -ℤ pos k ≡ pos (6 - k)
places_left zero le = refl
places_left (suc zero) le = refl
places_left (suc (suc zero)) le = refl
places_left (suc (suc (suc zero))) le = refl
places_left (suc (suc (suc (suc zero)))) le = refl
places_left (suc (suc (suc (suc (suc zero))))) le = refl
places_left (suc (suc (suc (suc (suc (suc zero)))))) le = refl
places_left (suc (suc (suc (suc (suc (suc (suc k))))))) le = absurd (omega arith)

digits_in_range : (negative : Bool) (ds fs : List ℕ) (n : ℕ) → length ds ≤ 9 → length fs ≤ 6 → n ≤ 100000000000000 → spelled_onto 0 (ds ++ fs) * 10 ^ (6 - length fs) ≡ n
    → in_range (numeral_with negative ds fs) ≡ Ok (with_sign negative n)
unfolding in_range scale
digits_in_range negative ds fs n whole short most value =
    let few : ltb 9 (length ds) ≡ false = grind (arith, nat_tests) in
    let few_behind : ltb 25 (length fs) ≡ false = grind (arith, nat_tests) in
    let within : ltb 100000000000000 n ≡ false = grind (arith, nat_tests) in
    rw (few, few_behind, places_left (length fs) short, value, within) refl

-- the digits of a magnitude in millionths
pub record IsSpelled (n : ℕ) (ds fs : List ℕ) : Type 0 where
  pub digits : AreDigits ds
  pub fraction : AreDigits fs
  pub some : 0 < length ds
  pub few : length ds ≤ 9
  pub few_behind : length fs ≤ 6
  pub value : spelled_onto 0 (ds ++ fs) * 10 ^ (6 - length fs) ≡ n

pub magnitude_is_spelled : (n : ℕ) → n ≤ 100000000000000 → IsSpelled n (decimal (n / 1000000)) (fraction_digits 6 (n % 1000000))
magnitude_is_spelled n most =
    let whole = n / 1000000 in
    let parts = n % 1000000 in
    let below : n % 1000000 < 10 ^ 6 = omega arith in
    let fits : n / 1000000 < 2 ^ 64 = omega arith in
    let nine : n / 1000000 < 10 ^ 9 = omega arith in
    let fill = fraction_fills 6 (n % 1000000) (n / 1000000) below in
    let start : spelled_onto 0 (decimal (n / 1000000) ++ fraction_digits 6 (n % 1000000)) ≡ spelled_onto (n / 1000000) (fraction_digits 6 (n % 1000000)) =
    fold-append (λ value b. value * 10 + (b - 48)) 0 (decimal (n / 1000000)) (fraction_digits 6 (n % 1000000)) ∙ ap (λ (v : ℕ). spelled_onto v (fraction_digits 6 (n % 1000000))) (value-decimal (n / 1000000) fits) in
    record {
      digits = are_digits_decimal (n / 1000000) fits;
      fraction = are_digits_fraction 6 (n % 1000000) below;
      some = decimal_nonempty (n / 1000000) fits;
      few = length-decimal-le 9 (n / 1000000) (lit< tt) nine fits;
      few_behind = fill.short;
      value = rw start (fill.value ∙ omega arith);
    }

-- if the fraction is zero, no point is written
pub fraction_text-cases : (parts : ℕ) → ((fraction_text parts ≡ []) × (fraction_digits 6 parts ≡ [])) ⊎ (fraction_text parts ≡ 46 ∷ fraction_digits 6 parts)
unfolding fraction_text
fraction_text-cases parts = elim (cases_eq parts 0) [
  | inl e ↦ inl (rw e refl, rw (e, fraction_digits-zero 6) refl)
  | inr ne ↦ inr (rw (ne_eqb parts 0 ne) refl)
]

magnitude_is_cut : (negative : Bool) (n : ℕ) → n ≤ 100000000000000 → parts_of negative (magnitude_text n) ≡ Some (numeral_with negative (decimal (n / 1000000)) (fraction_digits 6 (n % 1000000)))
unfolding magnitude_text
magnitude_is_cut negative n most =
    let spelled = magnitude_is_spelled n most in
    elim (fraction_text-cases (n % 1000000)) [
      | inl none ↦ rw (none.0, none.1, append-nil (decimal (n / 1000000))) (whole_is_cut negative (decimal (n / 1000000)) spelled.digits spelled.some)
      | inr some ↦ rw some (fraction_is_cut negative (decimal (n / 1000000)) (fraction_digits 6 (n % 1000000)) spelled.digits spelled.fraction spelled.some)
    ]

magnitude_has_no_sign : (n : ℕ) → n ≤ 100000000000000 → HasNoSign (magnitude_text n)
unfolding magnitude_text
magnitude_has_no_sign n most =
    let spelled = magnitude_is_spelled n most in
    digits_have_no_sign (decimal (n / 1000000)) (fraction_text (n % 1000000)) spelled.digits spelled.some

spelled_in_range : (negative : Bool) (n : ℕ) → n ≤ 100000000000000 → in_range (numeral_with negative (decimal (n / 1000000)) (fraction_digits 6 (n % 1000000))) ≡ Ok (with_sign negative n)
spelled_in_range negative n most =
    let spelled = magnitude_is_spelled n most in
    digits_in_range negative (decimal (n / 1000000)) (fraction_digits 6 (n % 1000000)) n spelled.few spelled.few_behind most spelled.value

pub number_again : (m : ℤ) → IsMicro m → number (number_text m) ≡ Ok m
unfolding number numeral number_text
number_again (pos n) most =
    let plain = magnitude_has_no_sign n most in
    rw (plain.negative, plain.rest, magnitude_is_cut false n most) (spelled_in_range false n most)
number_again (negsuc n) most =
    let least : nat_abs (negsuc n) ≡ suc n = refl in
    rw (magnitude_is_cut true (suc n) most) (spelled_in_range true (suc n) most)

magnitude_text_short : (n : ℕ) → n ≤ 100000000000000 → length (magnitude_text n) ≤ 16
unfolding magnitude_text
magnitude_text_short n most =
    let spelled = magnitude_is_spelled n most in
    elim (fraction_text-cases (n % 1000000)) [
      | inl none ↦ rw (none.0, append-nil (decimal (n / 1000000))) (omega (arith, spelled.few))
      | inr some ↦ rw (some, length-append (decimal (n / 1000000)) (46 ∷ fraction_digits 6 (n % 1000000))) (omega (arith, spelled.few, spelled.few_behind))
    ]

-- a number has at most 17 bytes
pub number_text_short : (m : ℤ) → IsMicro m → length (number_text m) ≤ 17
unfolding number_text
number_text_short (pos n) most = let few = magnitude_text_short n most in omega (arith, few)
number_text_short (negsuc n) most = let few = magnitude_text_short (suc n) most in omega (arith, few)
