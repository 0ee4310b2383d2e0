-- Moments, in milliseconds of a clock that never goes back.
use Rattle.std.specs.Prelude.{ℕ, ◌+◌, ◌-◌, ◌^◌, min}

-- the moment so much later, or the last one that a clock can show
abbrev pub later : ℕ → ℕ → ℕ
later now wait = min (now + wait) (2 ^ 64 - 1)

-- a second
abbrev pub second : ℕ
second = 1000

-- a stream may be silent for less than five seconds
abbrev pub silence : ℕ
silence = 5000
