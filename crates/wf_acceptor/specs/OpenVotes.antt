-- Used only in this crate's contracts: votes in the order of their slots, and what a search finds
-- among them.
use Rattle.std.specs.Prelude.{◌≡◌, ℕ, ◌<◌, ◌≤◌, List, length, slice_index_or}
use Rattle.std.specs.Ordering.{nat_cmp}
use Rattle.std.specs.FinMap.{FinMap}
use Rattle.wf_ballot.specs.Ballot.{Ballot}
use Rattle.wf_def.specs.Definition.{Definition}

-- the vote of each slot, and how many more there is room for
pub record OpenVotes : Type 0 where
  pub by_slot : FinMap nat_cmp (Ballot × Definition)
  pub room : ℕ

-- the slot of the entry at this index
abbrev pub slot_at : {A : Type 0} → List (ℕ × A) → ℕ × A → ℕ → ℕ
slot_at entries d i = let entry = slice_index_or entries i d in entry.0

-- the slots rise, so none comes twice
abbrev pub IsSorted : {A : Type 0} → List (ℕ × A) → Type 0
IsSorted {A} entries = (i j : ℕ) (d : ℕ × A) → i < j → j < length entries → slot_at entries d i < slot_at entries d j

-- the slot's entry is at this index
pub record IsEntryAt {A : Type 0} (entries : List (ℕ × A)) (s i : ℕ) : Type 0 where
  pub in_range : i < length entries
  pub has_slot : (d : ℕ × A) → slot_at entries d i ≡ s

-- the slot's entry would go to this index: lower slots are before it, and higher ones from it on
pub record IsGapFor {A : Type 0} (entries : List (ℕ × A)) (s i : ℕ) : Type 0 where
  pub in_range : i ≤ length entries
  pub lower_before : (j : ℕ) (d : ℕ × A) → j < i → slot_at entries d j < s
  pub higher_after : (j : ℕ) (d : ℕ × A) → i ≤ j → j < length entries → s < slot_at entries d j
