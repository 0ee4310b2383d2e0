-- The search for the last block up to which a file is sound.
use Rattle.std.proofs.Common.{◌≡◌, ◌∙◌, ℕ, ◌+◌, ◌<◌, ◌≤◌, Bool, true, false, List, arith, inl, inr, length, refl, subst, sym}
use Rattle.std.proofs.lemmas.Bool.{cases_lt, false≢true}
use Rattle.std.proofs.lemmas.List.{drop_all}
use Rattle.wf_check.specs.declared.fault.CheckFault.{CheckFault}
use Rattle.wf_check.specs.Finding.{IsBoundary, IsLastBlock, IsSoundTo, NoneBegins, StopsFrom, begins_block, begins_with}

-- behind an offset the bytes are sound up to a second one, unless it is the first, and not up to
-- the first block from a third on
pub record IsBetween (all : Bool) (fault : CheckFault) (bytes : List ℕ) (from last stop : ℕ) : Type 0 where
  pub behind : from ≤ last
  pub order : last < stop
  pub within : stop ≤ length bytes + 1
  pub block : from < last → begins_block all bytes last ≡ true
  pub here : from < last → IsSoundTo fault bytes last
  pub next : StopsFrom all fault bytes stop

-- no block begins at the end of the bytes
none_at_end : (all : Bool) (bytes : List ℕ) (offset : ℕ) → length bytes ≤ offset → begins_block all bytes offset ≡ false
unfolding begins_block begins_with
none_at_end true bytes offset past = rw (drop_all offset bytes past) refl
none_at_end false bytes offset past = rw (drop_all offset bytes past) refl

pub past_end : (all : Bool) (fault : CheckFault) (bytes : List ℕ) → StopsFrom all fault bytes (length bytes + 1)
past_end all fault bytes = λ next from begins none. absurd (false≢true (sym (none_at_end all bytes next (omega (arith, from))) ∙ begins))

-- before the search
pub whole : (all : Bool) (fault : CheckFault) (bytes : List ℕ) (from to : ℕ) → from < to → to ≤ length bytes + 1 → StopsFrom all fault bytes to → IsBetween all fault bytes from from to
whole all fault bytes from to order within stops = record {
  behind = omega arith;
  order = order;
  within = within;
  block = λ past. absurd (omega (arith, past));
  here = λ past. absurd (omega (arith, past));
  next = stops;
}

-- no block begins from the middle up to the end
pub no_block : (all : Bool) (fault : CheckFault) (bytes : List ℕ) (from last middle stop : ℕ) → IsBetween all fault bytes from last stop → last < middle → middle < stop
    → NoneBegins all bytes middle stop → IsBetween all fault bytes from last middle
no_block all fault bytes from last middle stop between low high none = record {
  behind = between.behind;
  order = low;
  within = omega (arith, between.within);
  block = between.block;
  here = between.here;
  next = λ next first begins others. elim (cases_lt next stop) [
    | inl before ↦ absurd (false≢true (sym (none next first before) ∙ begins))
    | inr behind ↦ between.next next behind begins (λ offset past up. others offset (omega (arith, high, past)) up)
  ];
}

-- the bytes are sound up to a block from the middle on
pub block_here : (all : Bool) (fault : CheckFault) (bytes : List ℕ) (from last block stop : ℕ) → IsBetween all fault bytes from last stop → last < block → block < stop
    → begins_block all bytes block ≡ true → IsSoundTo fault bytes block → IsBetween all fault bytes from block stop
block_here all fault bytes from last block stop between after before begins here = record {
  behind = omega (arith, between.behind, after);
  order = before;
  within = between.within;
  block = λ past. begins;
  here = λ past. here;
  next = between.next;
}

-- they aren't up to the first block from the middle on
pub block_stops : (all : Bool) (fault : CheckFault) (bytes : List ℕ) (from last middle block stop : ℕ) → IsBetween all fault bytes from last stop → last < middle → middle < stop
    → begins_block all bytes block ≡ true → middle ≤ block → NoneBegins all bytes middle block → ¬ (IsSoundTo fault bytes block) → IsBetween all fault bytes from last middle
block_stops all fault bytes from last middle block stop between low high begins first none stops = record {
  behind = between.behind;
  order = low;
  within = omega (arith, between.within);
  block = between.block;
  here = between.here;
  next = λ next after starts others. elim (cases_lt next block) [
    | inl before ↦ absurd (false≢true (sym (none next after before) ∙ starts))
    | inr behind ↦ elim (cases_lt block next) [
      | inl past ↦ absurd (false≢true (sym (others block first past) ∙ begins))
      | inr up ↦ let same : block ≡ next = omega (arith, behind, up) in subst (λ n. ¬ (IsSoundTo fault bytes n)) same stops
    ]
  ];
}

-- after the search
pub found : (all : Bool) (fault : CheckFault) (bytes : List ℕ) (from last stop : ℕ) → IsBetween all fault bytes from last stop → stop ≤ last + 1 → IsBoundary all fault bytes from last
found all fault bytes from last stop between done =
    let same : stop ≡ last + 1 = omega (arith, between.order, done) in record {
      behind = between.behind;
      within = omega (arith, between.order, between.within);
      block = between.block;
      here = between.here;
      next = subst (λ n. StopsFrom all fault bytes n) same between.next;
    }

-- ---- the blocks of a layer

-- of all blocks, a LAYER is one
layer_is_block : (bytes : List ℕ) (offset : ℕ) → begins_block false bytes offset ≡ true → begins_block true bytes offset ≡ true
unfolding begins_block
layer_is_block bytes offset begins = grind arith

-- the file isn't sound up to the next LAYER, the first of all blocks there
pub next_stops : (fault : CheckFault) (bytes : List ℕ) (start next : ℕ) → IsBoundary false fault bytes 0 start → start + 1 ≤ next → begins_block false bytes next ≡ true
    → NoneBegins false bytes (start + 1) next → StopsFrom true fault bytes next
next_stops fault bytes start next layer past begins none = λ block from starts others. elim (cases_lt next block) [
  | inl behind ↦ absurd (false≢true (sym (others next (omega arith) behind) ∙ layer_is_block bytes next begins))
  | inr up ↦ let same : next ≡ block = omega (arith, from, up) in subst (λ n. ¬ (IsSoundTo fault bytes n)) same (layer.next next past begins none)
]

pub last_block : (fault : CheckFault) (bytes : List ℕ) (start offset to : ℕ) → IsBoundary false fault bytes 0 start → NoneBegins false bytes (start + 1) to → offset < to
    → IsBoundary true fault bytes start offset → IsLastBlock fault bytes offset
last_block fault bytes first offset to at none before here = record {
  start = first;
  layer = at;
  inside = λ other past up. none other past (omega (arith, before, up));
  block = here;
}
