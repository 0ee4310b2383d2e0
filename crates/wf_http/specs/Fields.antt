-- The header fields of a request (RFC 9110, section 5).
use Rattle.std.specs.Prelude.{ℕ, ◌==◌, ◌&&◌, Bool, false, List, [], ◌∷◌, drop, map, filter, bytes_eq, Option, Some, None}
use Rattle.std.specs.List.{list_all, prefix_len}
use Rattle.std.specs.Char.{is_ascii_digit}
use Rattle.std.specs.Str.{str_eq_ignore_ascii_case}

-- the field has that name; names compare without ASCII letter case
abbrev pub is_named : List ℕ → List ℕ × List ℕ → Bool
is_named name field = str_eq_ignore_ascii_case field.0 name

-- the values of the fields of that name, in order
abbrev pub values : List ℕ → List (List ℕ × List ℕ) → List (List ℕ)
values name fields = map (λ field. field.1) (filter (is_named name) fields)

-- one or more decimal digits
abbrev pub is_digits : List ℕ → Bool
is_digits [] = false
is_digits (byte ∷ bytes) = list_all is_ascii_digit (byte ∷ bytes)

abbrev pub is_zero : ℕ → Bool
is_zero digit = digit == 48

-- the digits without leading zeros: the same for one number, however it is written
abbrev pub significant : List ℕ → List ℕ
significant digits = drop (prefix_len is_zero digits) digits

-- the value is digits, and the same number as these digits
abbrev pub is_number : List ℕ → List ℕ → Bool
is_number first value = is_digits value && bytes_eq (significant value) (significant first)

-- the first element of the list
abbrev pub first_of : List (List ℕ) → Option (List ℕ)
first_of [] = None
first_of (first ∷ _) = Some first
