-- The parts that a number's text is cut into have the form of a number and spell that text.
use Rattle.std.proofs.Common.{◌≡◌, ℕ, suc, ◌+◌, ◌≤◌, Bool, true, false, eqb, List, [], ◌∷◌, ◌++◌, length, Option, Some, None, refl, sym, ap, arith, inl, inr}
use Rattle.std.specs.Prelude.{ℤ, option_map}
use Rattle.std.specs.Char.{is_ascii_digit}
use Rattle.std.specs.List.{prefix_len}
use Rattle.std.proofs.lemmas.Bool.{cases_eq, cases_Bool, ne_eqb, eqb-false, ltb-true, leb-true, and_parts}
use Rattle.std.proofs.lemmas.List.{take-append-drop}
use Rattle.std.proofs.lemmas.Option.{cond_some, same_Some, none-some}
use Rattle.wf_text.specs.Number.{Numeral, is_negative, after_sign, leading_digits, after_digits, fraction_digits, after_fraction, spelled_onto, with_sign, is_power_digits, signed_power, power_of, numeral_from, numeral}
use Rattle.wf_text.specs.NumberForm.{Sign, Unsigned, Plus, Minus, sign_text, is_minus, Fraction, NoPoint, WithPoint, fraction_text, behind_point, Mark, SmallE, CapitalE, mark_byte, NumberEnding, NoPower, WithPower, ending_text, power_of_ten, AreDigits, ArePowerDigits, IsNumberEnding, HasParts}

-- ---- digits

digits_are_cut : (text : List ℕ) → AreDigits (leading_digits text)
digits_are_cut [] = refl
digits_are_cut (b ∷ rest) =
    let next : 1 + prefix_len is_ascii_digit rest ≡ suc (prefix_len is_ascii_digit rest) = omega arith in
    elim (cases_Bool (is_ascii_digit b)) [
      | inl digit ↦ rw (digit, next, digit) (digits_are_cut rest)
      | inr other ↦ rw other refl
    ]

digits_join : (text : List ℕ) → leading_digits text ++ after_digits text ≡ text
digits_join text = take-append-drop (prefix_len is_ascii_digit text) text

-- ---- the sign

record HasSign (text : List ℕ) : Type 0 where
  sign : Sign
  joined : sign_text sign ++ after_sign text ≡ text
  minus : is_minus sign ≡ is_negative text

has_sign : (text : List ℕ) → HasSign text
has_sign [] = record { sign = Unsigned; joined = refl; minus = refl }
has_sign (b ∷ rest) = elim (cases_eq b 45) [
  | inl e ↦ record { sign = Minus; joined = rw e refl; minus = rw e refl }
  | inr other ↦ elim (cases_eq b 43) [
    | inl e ↦ record { sign = Plus; joined = rw e refl; minus = rw e refl }
    | inr neither ↦ record { sign = Unsigned; joined = rw (ne_eqb b 45 other, ne_eqb b 43 neither) refl; minus = sym (ne_eqb b 45 other) }
  ]
]

-- ---- the fraction

record HasFraction (text : List ℕ) : Type 0 where
  fraction : Fraction
  joined : fraction_text fraction ++ after_fraction text ≡ text
  digits : behind_point fraction ≡ fraction_digits text
  are_digits : AreDigits (behind_point fraction)

has_fraction : (text : List ℕ) → HasFraction text
has_fraction [] = record { fraction = NoPoint; joined = refl; digits = refl; are_digits = refl }
has_fraction (b ∷ rest) = elim (cases_eq b 46) [
  | inl e ↦ record {
    fraction = WithPoint (leading_digits rest);
    joined = rw e (ap (λ (bytes : List ℕ). 46 ∷ bytes) (digits_join rest));
    digits = rw e refl;
    are_digits = digits_are_cut rest;
  }
  | inr other ↦ record { fraction = NoPoint; joined = rw (ne_eqb b 46 other) refl; digits = rw (ne_eqb b 46 other) refl; are_digits = refl }
]

-- ---- the power of ten

are_power_digits : (digits : List ℕ) → is_power_digits digits ≡ true → ArePowerDigits digits
are_power_digits digits e =
    let within = and_parts _ _ e in
    let bounds = and_parts _ _ within.0 in
    record { digits = within.1; least = ltb-true _ _ bounds.0; most = leb-true _ _ bounds.1 }

record HasPower (text : List ℕ) (power : ℤ) : Type 0 where
  sign : Sign
  digits : List ℕ
  are_digits : ArePowerDigits digits
  joined : sign_text sign ++ digits ≡ text
  stated : with_sign (is_minus sign) (spelled_onto 0 digits) ≡ power

has_power : (text : List ℕ) (power : ℤ) → signed_power text ≡ Some power → HasPower text power
has_power text power e =
    let s = has_sign text in
    let found = cond_some _ _ _ e in
    record { sign = s.sign; digits = after_sign text; are_digits = are_power_digits (after_sign text) found.0; joined = s.joined; stated = rw s.minus found.1 }

record HasEnding (text : List ℕ) (power : ℤ) : Type 0 where
  ending : NumberEnding
  is_ending : IsNumberEnding ending
  joined : ending_text ending ≡ text
  stated : power_of_ten ending ≡ power

ends_with : (mark : Mark) (b : ℕ) (rest : List ℕ) (power : ℤ) → b ≡ mark_byte mark → signed_power rest ≡ Some power → HasEnding (b ∷ rest) power
ends_with mark b rest power is_mark e =
    let p = has_power rest power e in
    record { ending = WithPower mark p.sign p.digits; is_ending = p.are_digits; joined = rw (is_mark, p.joined) refl; stated = p.stated }

has_ending : (text : List ℕ) (power : ℤ) → power_of text ≡ Some power → HasEnding text power
has_ending [] power e = record { ending = NoPower; is_ending = tt; joined = refl; stated = same_Some _ _ e }
has_ending (b ∷ rest) power e = elim (cases_eq b 101) [
  | inl small ↦ ends_with SmallE b rest power small (rw small at e)
  | inr other ↦ elim (cases_eq b 69) [
    | inl capital ↦ ends_with CapitalE b rest power capital (rw capital at e)
    | inr neither ↦ absurd (none-some power (rw (ne_eqb b 101 other, ne_eqb b 69 neither) at e))
  ]
]

-- ---- all parts

-- there is a digit and a power of ten, and these are the parts
record IsMade (negative : Bool) (whole fraction : List ℕ) (found : Option ℤ) (parts : Numeral) : Type 0 where
  power : ℤ
  is_found : found ≡ Some power
  least : 1 ≤ length whole + length fraction
  parts_are : record { negative = negative; whole = whole; fraction = fraction; power = power } ≡ parts

is_made : (negative : Bool) (whole fraction : List ℕ) (found : Option ℤ) (parts : Numeral) → numeral_from negative whole fraction found ≡ Some parts → IsMade negative whole fraction found parts
is_made negative whole fraction found parts e = elim (cases_Bool (eqb (length whole + length fraction) 0)) [
  | inl none ↦ absurd (none-some parts (rw none at e))
  | inr some ↦ with_digits negative whole fraction found parts some (rw some at e)
] where
  with_digits : (negative : Bool) (whole fraction : List ℕ) (found : Option ℤ) (parts : Numeral) → eqb (length whole + length fraction) 0 ≡ false
      → option_map (λ p. record { negative = negative; whole = whole; fraction = fraction; power = p }) found ≡ Some parts → IsMade negative whole fraction found parts
  with_digits negative whole fraction None parts some e = absurd (none-some parts e)
  with_digits negative whole fraction (Some power) parts some e =
      let other : length whole + length fraction ≡ 0 → ⊥ = eqb-false _ _ some in
      record { power = power; is_found = refl; least = omega arith; parts_are = same_Some _ _ e }

pub has_parts : (text : List ℕ) (parts : Numeral) → numeral text ≡ Some parts → HasParts text parts
unfolding numeral
has_parts text parts e =
    let behind_sign : List ℕ = after_sign text in
    let behind_whole : List ℕ = after_digits behind_sign in
    let made = is_made (is_negative text) (leading_digits behind_sign) (fraction_digits behind_whole) (power_of (after_fraction behind_whole)) parts e in
    let s = has_sign text in
    let f = has_fraction behind_whole in
    let t = has_ending (after_fraction behind_whole) made.power made.is_found in
    record {
      written = record { sign = s.sign; whole = leading_digits behind_sign; fraction = f.fraction; ending = t.ending };
      is_written = record { whole = digits_are_cut behind_sign; fraction = f.are_digits; least = rw f.digits made.least; ending = t.is_ending };
      spells = rw (t.joined, f.joined, digits_join behind_sign) s.joined;
      sends = rw (s.minus, f.digits, t.stated) made.parts_are;
    }
