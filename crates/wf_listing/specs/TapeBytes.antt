-- How long a tape may be.
use Rattle.std.specs.Prelude.{ℕ}

-- the most bytes of a tape: a node that opens makes at most 1,048,576 reads of 8,192 bytes, the
-- last of which finds the end
abbrev pub most_tape_bytes : ℕ
most_tape_bytes = 8589926400
