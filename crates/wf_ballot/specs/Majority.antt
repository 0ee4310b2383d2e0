-- Sets of nodes, and when one is a majority. The nodes of a farm of n are 0 to n - 1, and a set of
-- nodes is a test.
use Rattle.std.specs.Prelude.{◌≡◌, ℕ, zero, suc, ◌+◌, ◌*◌, ◌<◌, Bool, true, nat_lt, if◌then◌else◌}

-- the number of nodes below n in the set
unfoldable pub count_nodes : ℕ → (ℕ → Bool) → ℕ
count_nodes zero nodes = 0
count_nodes (suc n) nodes = count_nodes n nodes + (if nodes n then 1 else 0)

-- a count is a majority of n nodes iff twice the count is more than n
unfoldable pub is_majority_of : ℕ → ℕ → Bool
is_majority_of count n = nat_lt n (2 * count)

-- P holds of a majority of n nodes
pub record Majority (n : ℕ) (P : ℕ → Type 0) : Type 0 where
  pub nodes : ℕ → Bool
  pub is_majority : is_majority_of (count_nodes n nodes) n ≡ true
  pub each : (i : ℕ) → i < n → nodes i ≡ true → P i

-- a node below n that is in both sets
pub record IsShared (n : ℕ) (a b : ℕ → Bool) (i : ℕ) : Type 0 where
  pub is_node : i < n
  pub in_first : a i ≡ true
  pub in_second : b i ≡ true

-- two majorities of the same nodes share a node
abbrev pub MajoritiesMeet : Type 0
MajoritiesMeet = (n : ℕ) (a b : ℕ → Bool) → is_majority_of (count_nodes n a) n ≡ true →
    is_majority_of (count_nodes n b) n ≡ true → (i : ℕ) × IsShared n a b i
