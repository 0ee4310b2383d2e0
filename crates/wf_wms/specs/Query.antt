-- The parameters of a request: OGC 06-042, 6.8 (names without regard to letter case, order without
-- significance), over the form syntax of the URL Standard, section 5.
use Rattle.std.specs.Prelude.{ℕ, Bool, List, [], ◌∷◌, map, find, bytes_eq, Option, Some, None, option_and_then}
use Rattle.std.specs.Char.{to_ascii_lowercase}
use Rattle.std.specs.Str.Lossy.{utf8_lossy}
use Rattle.form_urlencoded.specs.Form.{raw_pairs, decode}

-- one side of a pair, decoded: `+` and percent escapes, and U+FFFD for invalid UTF-8
abbrev pub decoded : List ℕ → List ℕ
decoded bytes = utf8_lossy (decode bytes)

abbrev pub decoded_pair : List ℕ × List ℕ → List ℕ × List ℕ
decoded_pair pair = (decoded pair.0, decoded pair.1)

-- the names and values of a query, in order
abbrev pub pairs_of : List ℕ → List (List ℕ × List ℕ)
pairs_of query = map decoded_pair (raw_pairs query)

-- the texts are equal up to ASCII case
abbrev pub is_same_name : List ℕ → List ℕ → Bool
is_same_name a b = bytes_eq (map to_ascii_lowercase a) (map to_ascii_lowercase b)

-- an empty value counts as absent
abbrev pub unless_empty : List ℕ → Option (List ℕ)
unless_empty [] = None
unless_empty (byte ∷ bytes) = Some (byte ∷ bytes)

-- the value of a parameter: that of the first pair of its name, None if it is empty
unfoldable pub parameter : List ℕ → List (List ℕ × List ℕ) → Option (List ℕ)
parameter name pairs =
    option_and_then (λ pair. unless_empty pair.1) (find (λ pair. is_same_name pair.0 name) pairs)
