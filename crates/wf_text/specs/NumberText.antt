-- The text of a number of millionths: `-` if it is negative, the integer part without leading zeros
-- but with at least one digit, and a fraction, without trailing zeros, only if it isn't zero.
use Rattle.std.specs.Prelude.{ℕ, zero, suc, ℤ, pos, negsuc, ◌+◌, ◌/◌, ◌%◌, ◌^◌, List, [], ◌∷◌, ◌++◌, ◌==◌, if◌then◌else◌, ◌≡◌, ◌≤◌, length}
use Rattle.std.specs.Fmt.{decimal}
use Rattle.wf_text.specs.Limit.{most_number_bytes}

-- the digits of parts of 10 ^ places, up to the last that isn't 0
unfoldable pub fraction_digits : ℕ → ℕ → List ℕ
fraction_digits zero parts = []
fraction_digits (suc places) parts =
    if parts == 0 then [] else (48 + parts / 10 ^ places) ∷ fraction_digits places (parts % 10 ^ places)

-- a point and the digits of a fraction in millionths, or nothing
unfoldable pub fraction_text : ℕ → List ℕ
fraction_text parts = if parts == 0 then [] else 46 ∷ fraction_digits 6 parts

unfoldable pub magnitude_text : ℕ → List ℕ
magnitude_text millionths = decimal (millionths / 1000000) ++ fraction_text (millionths % 1000000)

unfoldable pub number_text : ℤ → List ℕ
number_text (pos millionths) = magnitude_text millionths
number_text (negsuc below) = 45 ∷ magnitude_text (suc below)

-- what was written so far is this text, if the text is within the longest length
pub record IsNumberDraftOf (draft text : List ℕ) : Type 0 where
  pub whole : length text ≤ most_number_bytes → draft ≡ text

-- these bytes were appended to what was written before
pub record Writes (before bytes after : List ℕ) : Type 0 where
  pub behind : (text : List ℕ) → IsNumberDraftOf before text → IsNumberDraftOf after (text ++ bytes)
