-- The model of a pipe.
use Rattle.std.specs.Prelude.{◌≡◌, ℕ, ◌≤◌, List, ◌++◌, length}

-- all bytes that were taken at the one end, all that were read at the other, and how many wait at
-- most
pub record PipeState : Type 0 where
  pub sent : List ℕ
  pub came : List ℕ
  pub limit : ℕ

-- the one list is the first part of the other, or all of it
abbrev pub IsFrontOf : List ℕ → List ℕ → Type 0
IsFrontOf front whole = (rest : List ℕ) × (front ++ rest ≡ whole)

-- What was sent is what came, and then what waits; and no more waits than may.
pub record IsPipe (sent came waiting : List ℕ) (limit : ℕ) : Type 0 where
  pub order : came ++ waiting ≡ sent
  pub bounded : length waiting ≤ limit

-- as many bytes were sent and came, the very same
pub record KeepsBytes (before after : PipeState) : Type 0 where
  pub sent : after.sent ≡ before.sent
  pub came : after.came ≡ before.came
  pub limit : after.limit ≡ before.limit
