-- The files that tapes are read from, as far as they are known.
use Rattle.std.specs.Prelude.{ℕ, List, Option, None}

-- The content of the file at each path.
pub record Contents : Type 0 where
  pub file : List ℕ → Option (List ℕ)

-- nothing is known of them, as of the machine's
abbrev pub nothing_known : Contents
nothing_known = record { file = λ _. None }
