-- A colour of a mapfile: three integers from 0 to 255, or a string `#rrggbb`.
use Rattle.std.specs.Prelude.{ℕ, ◌==◌, if◌then◌else◌, List, [], ◌∷◌, Option, Some, None}
use Rattle.std.specs.Option.{option_map_or}
use Rattle.wf_def.specs.Color.{hexadecimal_color}
use Rattle.wf_def.specs.declared.color.Color.{Color}
use Rattle.wf_block.specs.Token.{Token, Word, Quoted, Braced}
use Rattle.wf_block.specs.Grammar.{◌>>=◌, whole}

unfoldable pub rgb_color : List Token → Option (Color × List Token)
rgb_color tokens = do
  r ← whole 0 255 tokens
  g ← whole 0 255 r.1
  b ← whole 0 255 g.1
  Some (record { r = r.0; g = g.0; b = b.0 }, b.1)

-- the digits of a string that begins with `#` (35)
unfoldable pub hash_digits : Token → Option (List ℕ)
hash_digits (Word bytes) = None
hash_digits (Braced inside) = None
hash_digits (Quoted []) = None
hash_digits (Quoted (b ∷ digits)) = if b == 35 then Some digits else None

-- a string that begins with `#` is a colour; any other argument is the first of three numbers
unfoldable pub color : List Token → Option (Color × List Token)
color [] = None
color (token ∷ rest) = option_map_or (λ digits. hexadecimal_color digits >>= λ c. Some (c, rest)) (hash_digits token) (rgb_color (token ∷ rest))
