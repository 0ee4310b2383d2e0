-- A number of 32 bits in a text.
use Rattle.std.specs.Prelude.{ℕ, List}
use Rattle.std.specs.Int.{w32, to_be_bytes}
use Rattle.hex.specs.Hex.{encode_lower}

-- eight hexadecimal digits in lowercase, the highest first
unfoldable pub number_digits : ℕ → List ℕ
number_digits n = encode_lower (to_be_bytes w32 n)
