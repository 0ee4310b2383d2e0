-- The model of an answer, and how far from a voter an answerer may be.
use Rattle.std.specs.Prelude.{ℕ, List}
use Rattle.wf_def.specs.Definition.{Definition}

-- The greatest distance from a voter at which is answered: a voter's own is 0, and a reader's is
-- one more than that of who answers it.
abbrev pub most_distance : ℕ
most_distance = 4

-- The answerer's distance, its last published sequence, the digest of its history up to that, and
-- definitions in the order of their sequences.
pub record ReaderAnswer : Type 0 where
  pub distance : ℕ
  pub published : ℕ
  pub digest : List ℕ
  pub definitions : List Definition
