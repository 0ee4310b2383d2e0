-- The number of a map definition in the history, and its bytes.
use Rattle.std.specs.Prelude.{ℕ, ◌≤◌, List}
use Rattle.std.specs.Int.{w16, to_be_bytes}

-- the last sequence of a history
abbrev pub last_sequence : ℕ
last_sequence = 4096

-- a number that a sequence may have
abbrev pub IsSequence : ℕ → Type 0
IsSequence s = s ≤ last_sequence

-- a sequence in messages and records: 2 bytes, big-endian
unfoldable pub seq_bytes : ℕ → List ℕ
seq_bytes s = to_be_bytes w16 s

-- numbers that a slot may have: a slot is the sequence of a definition that is agreed on; 0 isn't
-- one, since nothing is agreed on there
pub record IsSlot (s : ℕ) : Type 0 where
  pub from_one : 1 ≤ s
  pub to_last : s ≤ last_sequence
