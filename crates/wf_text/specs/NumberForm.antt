-- The form of a number's text: an optional `-` or `+`, digits, and optionally a point and digits,
-- with at least one digit in all; then optionally `e` or `E`, an optional sign and one to three
-- digits, a power of ten. `5.` and `.5` are numbers.
--
-- A written number is its parts from left to right; its text is their spellings, one after the
-- other. Nothing here cuts a text.
use Rattle.std.specs.Prelude.{◌≡◌, ◌↔◌, ⊤, ℕ, ◌+◌, ◌≤◌, Bool, true, false, List, [], ◌∷◌, ◌++◌, length, Some, Err, ℤ, pos}
use Rattle.std.specs.Char.{is_ascii_digit}
use Rattle.std.specs.List.{list_all}
use Rattle.wf_text.specs.declared.fault.NumberFault.TheVariants.{BadNumber}
use Rattle.wf_text.specs.Limit.{most_power_digits}
use Rattle.wf_text.specs.Number.{Numeral, numeral, spelled_onto, with_sign, in_range, number}

-- no sign, `+` or `-`
pub data Sign : Type 0 where
  Unsigned Plus Minus : Sign

abbrev pub sign_text : Sign → List ℕ
sign_text Unsigned = []
sign_text Plus = 43 ∷ []
sign_text Minus = 45 ∷ []

abbrev pub is_minus : Sign → Bool
is_minus Unsigned = false
is_minus Plus = false
is_minus Minus = true

-- no point, or a point followed by digits
pub data Fraction : Type 0 where
  NoPoint : Fraction
  WithPoint : List ℕ → Fraction

abbrev pub fraction_text : Fraction → List ℕ
fraction_text NoPoint = []
fraction_text (WithPoint digits) = 46 ∷ digits

abbrev pub behind_point : Fraction → List ℕ
behind_point NoPoint = []
behind_point (WithPoint digits) = digits

-- `e` or `E`
pub data Mark : Type 0 where
  SmallE CapitalE : Mark

abbrev pub mark_byte : Mark → ℕ
mark_byte SmallE = 101
mark_byte CapitalE = 69

-- no power of ten, or a mark followed by a sign and digits
pub data NumberEnding : Type 0 where
  NoPower : NumberEnding
  WithPower : Mark → Sign → List ℕ → NumberEnding

abbrev pub ending_text : NumberEnding → List ℕ
ending_text NoPower = []
ending_text (WithPower mark sign digits) = mark_byte mark ∷ (sign_text sign ++ digits)

abbrev pub power_of_ten : NumberEnding → ℤ
power_of_ten NoPower = pos 0
power_of_ten (WithPower mark sign digits) = with_sign (is_minus sign) (spelled_onto 0 digits)

-- a written number, from left to right
pub record Written : Type 0 where
  pub sign : Sign
  pub whole : List ℕ
  pub fraction : Fraction
  pub ending : NumberEnding

abbrev pub text_of : Written → List ℕ
text_of w = sign_text w.sign ++ (w.whole ++ (fraction_text w.fraction ++ ending_text w.ending))

-- the written number as the parts that have a value: the digits unchanged, with leading and
-- trailing zeros
abbrev pub parts_of : Written → Numeral
parts_of w = record { negative = is_minus w.sign; whole = w.whole; fraction = behind_point w.fraction; power = power_of_ten w.ending }

-- each byte is a digit
abbrev pub AreDigits : List ℕ → Type 0
AreDigits bytes = list_all is_ascii_digit bytes ≡ true

-- one to three digits
pub record ArePowerDigits (bytes : List ℕ) : Type 0 where
  pub digits : AreDigits bytes
  pub least : 1 ≤ length bytes
  pub most : length bytes ≤ most_power_digits

abbrev pub IsNumberEnding : NumberEnding → Type 0
IsNumberEnding NoPower = ⊤
IsNumberEnding (WithPower mark sign digits) = ArePowerDigits digits

-- there are digits where digits belong, and at least one before and after the point together
pub record AreDigitsWritten (w : Written) : Type 0 where
  pub whole : AreDigits w.whole
  pub fraction : AreDigits (behind_point w.fraction)
  pub least : 1 ≤ length w.whole + length (behind_point w.fraction)
  pub ending : IsNumberEnding w.ending

-- some written number spells this text and has these parts
pub record HasParts (text : List ℕ) (parts : Numeral) : Type 0 where
  pub written : Written
  pub is_written : AreDigitsWritten written
  pub spells : text_of written ≡ text
  pub sends : parts_of written ≡ parts

-- reading cuts a text into parts iff the text has those parts
abbrev pub CutIntoItsParts : Type 0
CutIntoItsParts = (text : List ℕ) (parts : Numeral) → (numeral text ≡ Some parts) ↔ HasParts text parts

-- a text that has parts means their value
abbrev pub MeansItsParts : Type 0
MeansItsParts = (text : List ℕ) (parts : Numeral) → HasParts text parts → number text ≡ in_range parts

-- reading a text returns BadNumber iff the text has no parts
abbrev pub BadWithoutParts : Type 0
BadWithoutParts = (text : List ℕ) → (number text ≡ Err BadNumber) ↔ ((parts : Numeral) → ¬ HasParts text parts)
