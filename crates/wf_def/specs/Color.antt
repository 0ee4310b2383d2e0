-- Colours in hexadecimal.
use Rattle.std.specs.Prelude.{ℕ, ◌+◌, ◌*◌, if◌then◌else◌, List, [], ◌∷◌, Option, Some, None}
use Rattle.std.specs.List.{list_all}
use Rattle.std.specs.Char.{is_ascii_hexdigit, digit_value}
use Rattle.wf_def.specs.declared.color.Color.{Color}

-- the byte of two hexadecimal digits
abbrev pub byte_of_digits : ℕ → ℕ → ℕ
byte_of_digits high low = 16 * digit_value high + digit_value low

-- the colour of six hexadecimal digits of either letter case: two each of red, green and blue
unfoldable pub hexadecimal_color : List ℕ → Option Color
hexadecimal_color (r1 ∷ r0 ∷ g1 ∷ g0 ∷ b1 ∷ b0 ∷ []) =
    if list_all is_ascii_hexdigit (r1 ∷ r0 ∷ g1 ∷ g0 ∷ b1 ∷ b0 ∷ [])
    then Some (record { r = byte_of_digits r1 r0; g = byte_of_digits g1 g0; b = byte_of_digits b1 b0 })
    else None
hexadecimal_color _ = None
