-- The nodes that are named for a pump.
use Rattle.std.proofs.Common.{◌≡◌, ◌<◌, ◌↔◌, ℕ, List, [], ◌∷◌, length, Contains, refl, sym, subst, arith, eqb, nat_cmp}
use Rattle.wf_farm.proofs.Common.{dedup, AreTargets}
use Rattle.std.proofs.lemmas.List.Filters.{dedup_is}
use Rattle.std.proofs.lemmas.List.Kept.{Contains-dedup_nat, Contains-from_dedup}
use Rattle.std.proofs.lemmas.List.Sorted.{Contains-permutation, IsPermutation-sym}
use Rattle.std.proofs.lemmas.Map.Keys.{IsStrictlyIncreasing-dedup}
use Rattle.std.specs.List.Sorted.{IsPermutation, IsSorted, IsStrictlyIncreasing}
use Rattle.std.specs.List.Retain.{DiffersFromLast, IsFiltered}

-- a list with an element isn't empty
some_there : (xs : List ℕ) (x : ℕ) → Contains xs x → 0 < length xs
some_there xs x there = omega (arith, there.1)

-- if there are names, a node is named iff it is among them
named_by : (n : ℕ) (names kept : List ℕ) → 0 < length names → ((i : ℕ) → Contains kept i ↔ Contains names i) → IsStrictlyIncreasing kept → AreTargets n names kept
named_by n [] kept some same ascending = absurd (omega (arith, some))
named_by n (first ∷ rest) kept some same ascending = record { ascending = ascending; named = same }

-- The names sorted, without duplicates.
pub sorted_targets : (n : ℕ) (names copy sorted kept : List ℕ) → 0 < length names → copy ≡ names → IsPermutation copy sorted → IsSorted nat_cmp sorted → IsFiltered (DiffersFromLast eqb) [] sorted kept →
    AreTargets n names kept
sorted_targets n names copy sorted kept some same moved ascends filtered =
    let is : kept ≡ dedup eqb sorted = dedup_is eqb sorted kept filtered in
    subst (AreTargets n names) (sym is) (subst (λ ns. AreTargets n ns (dedup eqb sorted)) same
    (named_by n copy (dedup eqb sorted) (subst (λ ns. 0 < length ns) (sym same) some)
    (λ i. (
      λ there. Contains-permutation sorted copy i (IsPermutation-sym copy sorted moved) (Contains-from_dedup eqb sorted i there),
      λ there. Contains-dedup_nat sorted i (Contains-permutation copy sorted i moved there),
    ))
    (IsStrictlyIncreasing-dedup sorted ascends)))

-- some are left
pub some_sorted : (n : ℕ) (names kept : List ℕ) → 0 < length names → AreTargets n names kept → 0 < length kept
some_sorted n [] kept some are = absurd (omega (arith, some))
some_sorted n (first ∷ rest) kept some are = some_there kept first ((are.named first).1 (0, omega arith, refl))
