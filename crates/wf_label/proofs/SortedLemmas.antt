-- Sorted lists: joined; gathered level by level; a list has one sorted order if no two items tie.
use Rattle.std.proofs.Common.{◌≡◌, ℕ, zero, suc, ◌+◌, ◌<◌, ◌≤◌, ◌==◌, ◌⊎◌, true, false, List, [], ◌∷◌, ◌++◌, length, get_or, reverse, filter, flat_map, All, Contains, IsPermutation, IsSorted, Ordering, Less, Equal, Greater, is_eq, is_lt, inl, inr, refl, sym, ap, subst, ◌∙◌, true≢false, arith}
use Rattle.std.specs.Cmp.{IsTotalOrder}
use Rattle.std.specs.List.{IsDistinct}
use Rattle.std.specs.List.Sorted.{IsStrictlySortedBy}
use Rattle.std.specs.Ordering.{eq_by_cmp, ordering_reverse}
use Rattle.std.proofs.lemmas.Bool.{cases_eq, cond_both, eqb-true, eq-eqb, ne_eqb}
use Rattle.std.proofs.lemmas.Cmp.{eq_by_cmp_equiv, tied_itself}
use Rattle.std.proofs.lemmas.Grind.{flat_map-append}
use Rattle.std.proofs.lemmas.List.{append-nil, reverse-append}
use Rattle.std.proofs.lemmas.List.Elements.{All-append, All-cons, All-contains, All-contains_itself, All-from_recursion, All-head, All-nil, All-tail, recursion_from_All}
use Rattle.std.proofs.lemmas.List.Kept.{IsStrictlySortedBy-filter}
use Rattle.std.proofs.lemmas.List.Sorted.{All-permutation, IsPermutation-append_comm, IsPermutation-append_left, IsPermutation-append_right, IsPermutation-cons, IsPermutation-middle, IsPermutation-refl, IsPermutation-sym, IsPermutation-trans}
use Rattle.std.proofs.lemmas.Map.Keys.{IsDistinct-from_sorted, IsDistinct-IsPermutation, Less-from_sorted, apart_from_distinct, sorted_from_all_adjacent}

-- ---- joined

-- a sorted list followed by another whose items all come after the first's
pub IsStrictlySortedBy-append : {K : Type 0} (R : K → K → Ordering) (xs ys : List K) → IsStrictlySortedBy R xs → IsStrictlySortedBy R ys →
    All (λ x. All (λ y. R x y ≡ Less) ys) xs → IsStrictlySortedBy R (xs ++ ys)
unfolding IsStrictlySortedBy
IsStrictlySortedBy-append R [] ys first second apart = second
IsStrictlySortedBy-append {K} R (x ∷ xs) ys first second apart =
    let behind : All (λ y. R x y ≡ Less) ys = All-head (λ (z : K). All (λ y. R z y ≡ Less) ys) x xs apart in
    let others : All (λ z. All (λ y. R z y ≡ Less) ys) xs = All-tail (λ (z : K). All (λ y. R z y ≡ Less) ys) x xs apart in
    let here : All (λ y. R x y ≡ Less) (xs ++ ys) = All-append (λ y. R x y ≡ Less) xs ys (All-from_recursion (λ y. R x y ≡ Less) xs first.0) behind in
    (recursion_from_All (λ y. R x y ≡ Less) (xs ++ ys) here, IsStrictlySortedBy-append R xs ys first.1 second others)

-- ---- one order

contains_cases : {K : Type 0} (x z : K) (xs : List K) → Contains (x ∷ xs) z → (x ≡ z) ⊎ Contains xs z
contains_cases {K} x z xs there = by_index there.0 there.1 there.2 where
  by_index : (k : ℕ) → k < length (x ∷ xs) → get_or (x ∷ xs) k z ≡ z → (x ≡ z) ⊎ Contains xs z
  by_index zero within is = inl is
  by_index (suc k) within is = inr (k, omega arith, is)

module _ {K : Type 0} {R : K → K → Ordering} (o : IsTotalOrder R) where
  -- neither of two items is before the other
  not_both : (x y : K) → R x y ≡ Less → R y x ≡ Less → ⊥
  not_both x y one other = true≢false (sym (ap is_lt one) ∙ ap is_lt (o.antisymm x y) ∙ ap (λ r. is_lt (ordering_reverse r)) other)

  same_head : (x y : K) (xs ys : List K) → All (λ z. R x z ≡ Less) xs → All (λ z. R y z ≡ Less) ys → Contains (y ∷ ys) x → Contains (x ∷ xs) y → x ≡ y
  same_head x y xs ys first second here there = elim (contains_cases y x ys here) [
    | inl same ↦ sym same
    | inr later ↦ elim (contains_cases x y xs there) [
      | inl same ↦ same
      | inr after ↦ absurd (not_both x y (All-contains (λ z. R x z ≡ Less) xs y first after) (All-contains (λ z. R y z ≡ Less) ys x second later))
    ]
  ]

  same_tail : (x y : K) (xs ys : List K) → x ≡ y → All (λ z. R x z ≡ Less) xs → All (Contains (y ∷ ys)) xs → All (Contains ys) xs
  same_tail x y xs ys same behind there k d within = elim (contains_cases y (get_or xs k d) ys (there k d within)) [
    | inl is ↦ absurd (true≢false (ap is_eq (sym (tied_itself o x) ∙ ap (R x) (same ∙ is) ∙ behind k d within)))
    | inr later ↦ later
  ]

  -- two strictly sorted lists with the same items are equal
  same_items : (xs ys : List K) → IsStrictlySortedBy R xs → IsStrictlySortedBy R ys → All (Contains ys) xs → All (Contains xs) ys → xs ≡ ys
  unfolding IsStrictlySortedBy
  same_items [] [] first second there back = refl
  same_items [] (y ∷ ys) first second there back = absurd (omega (arith, (All-head (Contains []) y ys back).1))
  same_items (x ∷ xs) [] first second there back = absurd (omega (arith, (All-head (Contains []) x xs there).1))
  same_items (x ∷ xs) (y ∷ ys) first second there back =
      let behind_x = All-from_recursion (λ z. R x z ≡ Less) xs first.0 in
      let behind_y = All-from_recursion (λ z. R y z ≡ Less) ys second.0 in
      let same : x ≡ y = same_head x y xs ys behind_x behind_y (All-head (Contains (y ∷ ys)) x xs there) (All-head (Contains (x ∷ xs)) y ys back) in
      let rest : xs ≡ ys = same_items xs ys first.1 second.1
      (same_tail x y xs ys same behind_x (All-tail (Contains (y ∷ ys)) x xs there))
      (same_tail y x ys xs (sym same) behind_y (All-tail (Contains (x ∷ xs)) y ys back)) in
      ap (λ z. z ∷ xs) same ∙ ap (λ l. y ∷ l) rest

  less_from : (r s : Ordering) → s ≡ ordering_reverse r → is_lt r ≡ false → is_eq s ≡ false → s ≡ Less
  less_from Less s is never apart = absurd (true≢false never)
  less_from Equal s is below apart = absurd (true≢false (sym (ap is_eq is) ∙ apart))
  less_from Greater s is below apart = is

  -- a sorted list in which no two items tie is strictly sorted
  strict_from_distinct : (xs : List K) → IsSorted R xs → IsDistinct (eq_by_cmp R) xs → IsStrictlySortedBy R xs
  unfolding IsStrictlySortedBy
  strict_from_distinct [] sorted apart = tt
  strict_from_distinct (x ∷ xs) sorted apart = sorted_from_all_adjacent o (x ∷ xs) x (λ k within.
      let a = get_or (x ∷ xs) k x in
      let b = get_or (x ∷ xs) (k + 1) x in
      less_from (R b a) (R a b) (o.antisymm a b) (sorted k x (omega arith) within) (apart_from_distinct (eq_by_cmp R) (x ∷ xs) k (k + 1) x apart (omega arith) within))

  pub IsSorted-from_strict : (xs : List K) → IsStrictlySortedBy R xs → IsSorted R xs
  IsSorted-from_strict xs strict k d from within =
      let less : R (get_or xs k d) (get_or xs (k + 1) d) ≡ Less = Less-from_sorted R xs k (k + 1) d strict (omega arith) within in
      ap is_lt (o.antisymm (get_or xs (k + 1) d) (get_or xs k d) ∙ ap ordering_reverse less)

  -- a sorted permutation of a strictly sorted list equals it
  pub one_order : (first second : List K) → IsPermutation first second → IsStrictlySortedBy R first → IsSorted R second → second ≡ first
  one_order first second moved strict sorted =
      let apart : IsDistinct (eq_by_cmp R) second = IsDistinct-IsPermutation (eq_by_cmp R) ((eq_by_cmp_equiv o).symm) first second moved (IsDistinct-from_sorted R first strict) in
      same_items second first (strict_from_distinct second sorted apart) strict
      (All-permutation (Contains first) first second moved (All-contains_itself first))
      (All-permutation (Contains second) second first (IsPermutation-sym first second moved) (All-contains_itself second))

-- ---- from the last to the first

-- from the last item to the first: what the first item gives comes last
pub flat_map-reverse_more : {X Y : Type 0} (f : X → List Y) (x : X) (xs : List X) → flat_map f (reverse (x ∷ xs)) ≡ flat_map f (reverse xs) ++ f x
flat_map-reverse_more {X} {Y} f x xs =
    ap (flat_map f) (reverse-append (x ∷ []) xs) ∙ flat_map-append f (reverse xs) (x ∷ [])
    ∙ ap (λ (l : List Y). flat_map f (reverse xs) ++ l) (append-nil (f x))

pub IsPermutation-flat_map_reverse : {X Y : Type 0} (f : X → List Y) (xs : List X) → IsPermutation (flat_map f xs) (flat_map f (reverse xs))
IsPermutation-flat_map_reverse f [] = IsPermutation-refl []
IsPermutation-flat_map_reverse {X} {Y} f (x ∷ xs) =
    let turned : IsPermutation (f x ++ flat_map f xs) (flat_map f (reverse xs) ++ f x) =
    IsPermutation-trans (f x ++ flat_map f xs) (flat_map f xs ++ f x) (flat_map f (reverse xs) ++ f x) (IsPermutation-append_comm (f x) (flat_map f xs))
    (IsPermutation-append_left (f x) (flat_map f xs) (flat_map f (reverse xs)) (IsPermutation-flat_map_reverse f xs)) in
    subst (λ (l : List Y). IsPermutation (f x ++ flat_map f xs) l) (sym (flat_map-reverse_more f x xs)) turned

pub All-flat_map : {X Y : Type 0} (P : Y → Type 0) (f : X → List Y) → ((x : X) → All P (f x)) → (xs : List X) → All P (flat_map f xs)
All-flat_map P f each [] = All-nil P
All-flat_map P f each (x ∷ xs) = All-append P (f x) (flat_map f xs) (each x) (All-flat_map P f each xs)

-- ---- level by level

-- the items of the levels from this one down to 1, each level in the order of the list
unfoldable pub by_levels : {K : Type 0} → (K → ℕ) → ℕ → List K → List K
by_levels level zero xs = []
by_levels level (suc n) xs = filter (λ x. level x == suc n) xs ++ by_levels level n xs

module _ {K : Type 0} (level : K → ℕ) where
  levels_of_none : (n : ℕ) → by_levels level n [] ≡ []
  unfolding by_levels
  levels_of_none zero = refl
  levels_of_none (suc n) = levels_of_none n

  -- an item above the levels isn't among theirs
  above_levels : (n : ℕ) (x : K) (xs : List K) → n < level x → by_levels level n (x ∷ xs) ≡ by_levels level n xs
  unfolding by_levels
  above_levels zero x xs above = refl
  above_levels (suc n) x xs above =
      let other : (level x == suc n) ≡ false = ne_eqb (level x) (suc n) (λ e. omega arith) in
      rw other (ap (λ (l : List K). filter (λ y. level y == suc n) xs ++ l) (above_levels n x xs (omega arith)))

  -- an item of one of the levels is added once
  one_item_more : (n : ℕ) (x : K) (xs : List K) → 1 ≤ level x → level x ≤ n → IsPermutation (x ∷ by_levels level n xs) (by_levels level n (x ∷ xs))
  unfolding by_levels
  one_item_more zero x xs least most = absurd (omega arith)
  one_item_more (suc n) x xs least most = elim (cases_eq (level x) (suc n)) [
    | inl same ↦
        let here : (level x == suc n) ≡ true = eq-eqb (level x) (suc n) same in
        let below : by_levels level n (x ∷ xs) ≡ by_levels level n xs = above_levels n x xs (omega arith) in
        rw (here, below) (IsPermutation-refl (x ∷ (filter (λ y. level y == suc n) xs ++ by_levels level n xs)))
    | inr apart ↦
        let other : (level x == suc n) ≡ false = ne_eqb (level x) (suc n) apart in
        let front : List K = filter (λ y. level y == suc n) xs in
        let rest : List K = by_levels level n xs in
        let behind : IsPermutation (x ∷ (front ++ rest)) (front ++ x ∷ rest) = IsPermutation-sym (front ++ x ∷ rest) (x ∷ (front ++ rest)) (IsPermutation-middle front x rest) in
        let below : IsPermutation (front ++ x ∷ rest) (front ++ by_levels level n (x ∷ xs)) =
        IsPermutation-append_right front (x ∷ rest) (by_levels level n (x ∷ xs)) (one_item_more n x xs least (omega arith)) in
        rw other (IsPermutation-trans (x ∷ (front ++ rest)) (front ++ x ∷ rest) (front ++ by_levels level n (x ∷ xs)) behind below)
  ]

  -- the levels together have all items, each once
  pub IsPermutation-by_levels : (n : ℕ) (xs : List K) → All (λ x. (1 ≤ level x) × (level x ≤ n)) xs → IsPermutation xs (by_levels level n xs)
  IsPermutation-by_levels n [] all = subst (λ (l : List K). IsPermutation [] l) (sym (levels_of_none n)) (IsPermutation-refl [])
  IsPermutation-by_levels n (x ∷ xs) all =
      let here = All-head (λ (y : K). (1 ≤ level y) × (level y ≤ n)) x xs all in
      let rest = IsPermutation-by_levels n xs (All-tail (λ (y : K). (1 ≤ level y) × (level y ≤ n)) x xs all) in
      IsPermutation-trans (x ∷ xs) (x ∷ by_levels level n xs) (by_levels level n (x ∷ xs)) (IsPermutation-cons x xs (by_levels level n xs) rest) (one_item_more n x xs here.0 here.1)

  all_of_level : (n : ℕ) (xs : List K) → All (λ x. level x ≡ n) (filter (λ x. level x == n) xs)
  all_of_level n [] = All-nil (λ x. level x ≡ n)
  all_of_level n (x ∷ xs) =
      let front : List K = filter (λ y. level y == n) xs in
      cond_both (level x == n) (x ∷ front) front (All (λ y. level y ≡ n))
      (λ is. All-cons (λ y. level y ≡ n) x front (eqb-true (level x) n is) (all_of_level n xs)) (λ other. all_of_level n xs)

  all_up_to : (n : ℕ) (xs : List K) → All (λ x. level x ≤ n) (by_levels level n xs)
  unfolding by_levels
  all_up_to zero xs = All-nil (λ x. level x ≤ zero)
  all_up_to (suc n) xs =
      let front : List K = filter (λ y. level y == suc n) xs in
      All-append (λ x. level x ≤ suc n) front (by_levels level n xs)
      (λ k d within. omega (arith, all_of_level (suc n) xs k d within)) (λ k d within. omega (arith, all_up_to n xs k d within))

  module _ (R S : K → K → Ordering) (higher : (x y : K) → level y < level x → R x y ≡ Less) (alike : (x y : K) → level x ≡ level y → S x y ≡ Less → R x y ≡ Less) where
    level_sorted : (n : ℕ) (xs : List K) → IsStrictlySortedBy S xs → All (λ x. level x ≡ n) xs → IsStrictlySortedBy R xs
    unfolding IsStrictlySortedBy
    level_sorted n [] sorted all = tt
    level_sorted n (x ∷ xs) sorted all =
        let here : level x ≡ n = All-head (λ (y : K). level y ≡ n) x xs all in
        let others : All (λ y. level y ≡ n) xs = All-tail (λ (y : K). level y ≡ n) x xs all in
        let behind = All-from_recursion (λ y. S x y ≡ Less) xs sorted.0 in
        let first : All (λ y. R x y ≡ Less) xs = λ k d within. alike x (get_or xs k d) (here ∙ sym (others k d within)) (behind k d within) in
        (recursion_from_All (λ y. R x y ≡ Less) xs first, level_sorted n xs sorted.1 others)

    -- higher levels come first, and each level is sorted as the list is
    pub IsStrictlySortedBy-by_levels : (n : ℕ) (xs : List K) → IsStrictlySortedBy S xs → IsStrictlySortedBy R (by_levels level n xs)
    unfolding by_levels IsStrictlySortedBy
    IsStrictlySortedBy-by_levels zero xs sorted = tt
    IsStrictlySortedBy-by_levels (suc n) xs sorted =
        let front : List K = filter (λ y. level y == suc n) xs in
        let first = level_sorted (suc n) front (IsStrictlySortedBy-filter S (λ y. level y == suc n) xs sorted) (all_of_level (suc n) xs) in
        IsStrictlySortedBy-append R front (by_levels level n xs) first (IsStrictlySortedBy-by_levels n xs sorted)
        (λ i d within j e inside. higher (get_or front i d) (get_or (by_levels level n xs) j e) (omega (arith, all_of_level (suc n) xs i d within, all_up_to n xs j e inside)))
