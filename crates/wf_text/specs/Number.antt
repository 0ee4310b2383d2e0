-- What a number's text means, in millionths of a unit.
--
-- The form: an optional sign, digits, and optionally a point and digits, with at least one digit in
-- all; then optionally `e` or `E`, an optional sign and one to three digits, a power of ten. `5.`
-- and `.5` are numbers.
use Rattle.std.specs.Prelude.{ℕ, ◌+◌, ◌-◌, ◌*◌, ◌/◌, ◌^◌, ◌==◌, ◌&&◌, ◌||◌, Bool, false, nat_lt, nat_le, List, [], ◌∷◌, ◌++◌, length, drop, take_while, fold, Option, Some, None, option_map, Result, Ok, Err, ℤ, pos, negsuc, ◌+ℤ◌, ◌-ℤ◌, neg_ℤ, if◌then◌else◌, nat_abs, ◌≤◌, ◌%◌}
use Rattle.std.specs.Char.{is_ascii_digit}
use Rattle.std.specs.List.{list_all, prefix_len}
use Rattle.wf_text.specs.declared.fault.NumberFault.{NumberFault}
use Rattle.wf_text.specs.declared.fault.NumberFault.TheVariants.{BadNumber, OutOfRange}
use Rattle.wf_text.specs.Limit.{most_millionths, most_whole_digits, most_fraction_digits, most_power_digits}

-- a number's text in parts: the digits are bytes, as written
pub record Numeral : Type 0 where
  pub negative : Bool
  pub whole : List ℕ
  pub fraction : List ℕ
  pub power : ℤ

-- the text begins with `-`
abbrev pub is_negative : List ℕ → Bool
is_negative [] = false
is_negative (b ∷ rest) = b == 45

abbrev pub is_sign : ℕ → Bool
is_sign b = b == 45 || b == 43

-- the text after a leading `-` or `+`, if there is one
abbrev pub after_sign : List ℕ → List ℕ
after_sign [] = []
after_sign (b ∷ rest) = if is_sign b then rest else b ∷ rest

-- the digits that the text begins with, and the rest
abbrev pub leading_digits : List ℕ → List ℕ
leading_digits bytes = take_while is_ascii_digit bytes

abbrev pub after_digits : List ℕ → List ℕ
after_digits bytes = drop (prefix_len is_ascii_digit bytes) bytes

-- the digits after a point, if the text begins with one, and the rest
abbrev pub fraction_digits : List ℕ → List ℕ
fraction_digits [] = []
fraction_digits (b ∷ rest) = if b == 46 then leading_digits rest else []

abbrev pub after_fraction : List ℕ → List ℕ
after_fraction [] = []
after_fraction (b ∷ rest) = if b == 46 then after_digits rest else b ∷ rest

-- the value that the digits spell, appended to the digits of a value
abbrev pub spelled_onto : ℕ → List ℕ → ℕ
spelled_onto value digits = fold (λ v b. v * 10 + (b - 48)) value digits

-- the number of any number of decimal digits
abbrev pub number_of_digits : List ℕ → ℕ
number_of_digits digits = spelled_onto 0 digits

abbrev pub with_sign : Bool → ℕ → ℤ
with_sign negative magnitude = if negative then neg_ℤ (pos magnitude) else pos magnitude

-- the text is one to three digits
abbrev pub is_power_digits : List ℕ → Bool
is_power_digits digits = nat_lt 0 (length digits) && nat_le (length digits) most_power_digits && list_all is_ascii_digit digits

-- one to three digits after an optional sign
abbrev pub signed_power : List ℕ → Option ℤ
signed_power text = if is_power_digits (after_sign text) then Some (with_sign (is_negative text) (spelled_onto 0 (after_sign text))) else None

abbrev pub is_power_mark : ℕ → Bool
is_power_mark b = b == 101 || b == 69

-- the power of ten that ends a number: a text that ends before it has the power 0
abbrev pub power_of : List ℕ → Option ℤ
power_of [] = Some (pos 0)
power_of (b ∷ rest) = if is_power_mark b then signed_power rest else None

-- the number of these parts, if there is at least one digit and the power is valid
abbrev pub numeral_from : Bool → List ℕ → List ℕ → Option ℤ → Option Numeral
numeral_from negative whole fraction power = if length whole + length fraction == 0 then None
    else option_map (λ p. record { negative = negative; whole = whole; fraction = fraction; power = p }) power

-- the parts of a text that has the form of a number, else None
unfoldable pub numeral : List ℕ → Option Numeral
numeral text = let behind_sign = after_sign text in let behind_whole = after_digits behind_sign in
    numeral_from (is_negative text) (leading_digits behind_sign) (fraction_digits behind_whole) (power_of (after_fraction behind_whole))

-- the value times a power of ten; what lies below 1 is dropped
unfoldable pub scale : ℕ → ℤ → ℕ
scale value (pos n) = value * 10 ^ n
scale value (negsuc n) = value / 10 ^ (n + 1)

-- the magnitude in millionths; what lies below a millionth is dropped
abbrev pub magnitude : Numeral → ℕ
magnitude n = scale (spelled_onto 0 (n.whole ++ n.fraction)) (pos 6 +ℤ n.power -ℤ pos (length n.fraction))

abbrev pub has_too_many_digits : Numeral → Bool
has_too_many_digits n = nat_lt most_whole_digits (length n.whole) || nat_lt most_fraction_digits (length n.fraction)

-- the number in millionths, unless it has too many digits or is too great
unfoldable pub in_range : Numeral → Result ℤ NumberFault
in_range n = if has_too_many_digits n || nat_lt most_millionths (magnitude n) then Err OutOfRange
    else Ok (with_sign n.negative (magnitude n))

-- what the text of a number means
unfoldable pub number : List ℕ → Result ℤ NumberFault
number text = number_of (numeral text) where
  number_of : Option Numeral → Result ℤ NumberFault
  number_of None = Err BadNumber
  number_of (Some n) = in_range n

-- the number of millionths is a coordinate: its magnitude is within the limit
abbrev pub IsMicro : ℤ → Type 0
IsMicro millionths = nat_abs millionths ≤ most_millionths

-- the number of units in that many millionths, if it is an integer in the range
unfoldable pub whole_between : ℕ → ℕ → ℤ → Option ℕ
whole_between least most (pos m) = if (m % 1_000_000 == 0) && nat_le least (m / 1_000_000) && nat_le (m / 1_000_000) most
    then Some (m / 1_000_000) else None
whole_between least most (negsuc m) = None
