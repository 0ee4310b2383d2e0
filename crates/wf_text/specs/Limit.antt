-- The limits of texts and numbers, each once, with its unit. The constants of the code are proved
-- equal to them.
use Rattle.std.specs.Prelude.{ℕ}

-- the longest text, in bytes
abbrev pub most_text_bytes : ℕ
most_text_bytes = 1_000

-- the greatest magnitude of a coordinate, in millionths of a unit
abbrev pub most_millionths : ℕ
most_millionths = 100_000_000_000_000

-- the most digits of a written number: before its point, after it, and of its power of ten
abbrev pub most_whole_digits : ℕ
most_whole_digits = 9

abbrev pub most_fraction_digits : ℕ
most_fraction_digits = 25

abbrev pub most_power_digits : ℕ
most_power_digits = 3

-- the longest text that a coordinate is written as, in bytes: a `-`, nine digits, a point and six
-- digits
abbrev pub most_number_bytes : ℕ
most_number_bytes = 17
