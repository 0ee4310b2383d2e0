-- Marks for numbers: 1 where a number is marked, else 0.
use Rattle.std.specs.Prelude.{◌≡◌, ℕ, ◌%◌, ◌<◌, ◌==◌, List, length, slice_index}
use Rattle.std.specs.List.{count_by}

-- no number is marked
pub record IsClear (marks : List ℕ) : Type 0 where
  pub none : (k : ℕ) → k < length marks → slice_index marks k ≡ 0

-- the numbers that are in the list an odd number of times are marked
pub record IsMarked (numbers marks : List ℕ) : Type 0 where
  pub odd : (k : ℕ) → k < length marks → slice_index marks k ≡ count_by (λ n. n == k) numbers % 2
