-- What a node knows of the replacements of each number, that of node i at index i; and which
-- folders it takes for a node's.
use Rattle.std.specs.Prelude.{◌≡◌, ◌≢◌, ℕ, ◌<◌, ◌⊎◌, List, Option, Some, None, count_by, is_some, slice_index_or}
use Rattle.wf_rejoin.specs.declared.replacement.Replacement.{Replacement}

abbrev pub latest_of : List (Option Replacement) → ℕ → Option Replacement
latest_of known i = slice_index_or known i None

-- of how many nodes one is known
abbrev pub known_count : List (Option Replacement) → ℕ
known_count known = count_by is_some known

-- its count; 0 where none is known
abbrev pub count_of : Option Replacement → ℕ
count_of None = 0
count_of (Some r) = r.count

-- What is known is never taken back, nor is another folder of one count taken: a later replacement
-- has a higher count, or is the same one.
abbrev pub IsNoOlder : (known later : Option Replacement) → Type 0
IsNoOlder None later = Unit {0}
IsNoOlder (Some k) None = ⊥
IsNoOlder (Some k) (Some r) = (k.count < r.count) ⊎ (r ≡ k)

-- of each number
abbrev pub AreNoOlder : (known later : List (Option Replacement)) → Type 0
AreNoOlder known later = (i : ℕ) → IsNoOlder (latest_of known i) (latest_of later i)

-- A peer's greeting says something new of another node: a replacement with a higher count.
pub record IsNewReplacement (known : List (Option Replacement)) (peer node : ℕ) (r : Replacement) : Type 0 where
  pub of_another : peer ≢ node
  pub higher : count_of (latest_of known node) < r.count
