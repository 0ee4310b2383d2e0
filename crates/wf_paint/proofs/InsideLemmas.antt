-- The rows that edges cross, and what the sorted crossings imply for each column.
use Rattle.std.proofs.Common.{◌≡◌, ℕ, zero, suc, ◌+◌, ◌-◌, ◌%◌, ◌<◌, ◌≤◌, ◌==◌, ◌&&◌, Bool, true, false, not, cond, nat_lt, int_lt, List, [], ◌∷◌, take, length, get_or, ℤ, ◌≤ℤ◌, refl, ap, ◌∙◌, subst, arith}
use Rattle.std.specs.List.{All, count_by}
use Rattle.std.proofs.lemmas.Bool.{lt-ltb, le-ltb}
use Rattle.std.proofs.lemmas.Int.{ints}
use Rattle.std.proofs.lemmas.List.Sums.{sum_by-cons}
use Rattle.std.proofs.lemmas.List.Elements.{All-head, All-tail, All-weaker, All-more}
use Rattle.wf_geometry.specs.Exact.{is_less}
use Rattle.wf_geometry.specs.Position.{PositionValue}
use Rattle.wf_geometry.specs.Coverage.{is_beside, meets, crosses, is_inside}
use Rattle.wf_geometry.specs.declared.operation.Segment.{Segment}

and_false : (b : Bool) → (b && false) ≡ false
and_false true = refl
and_false false = refl

-- ---- rows without crossings

-- nothing crosses a level below both ends
pub crosses_below : (c : PositionValue) (edge : Segment) (level : ℤ) → is_less c.y level ≡ true → level ≤ℤ edge.from.y → level ≤ℤ edge.to.y → crosses c edge ≡ false
unfolding crosses meets is_beside is_less
crosses_below c edge level below from to =
    let first : int_lt c.y edge.from.y ≡ true = grind (arith, ints) in
    let second : int_lt c.y edge.to.y ≡ true = grind (arith, ints) in
    rw (first, second) refl

-- or one that isn't below any
pub crosses_above : (c : PositionValue) (edge : Segment) (level : ℤ) → is_less c.y level ≡ false → edge.from.y ≤ℤ level → edge.to.y ≤ℤ level → crosses c edge ≡ false
unfolding crosses meets is_beside is_less
crosses_above c edge level above from to =
    let first : int_lt c.y edge.from.y ≡ false = grind (arith, ints) in
    let second : int_lt c.y edge.to.y ≡ false = grind (arith, ints) in
    rw (first, second, and_false (not false), and_false (not false)) refl

-- no element passes the test
count_none : {X : Type 0} (test : X → Bool) (xs : List X) → All (λ x. test x ≡ false) xs → count_by test xs ≡ 0
count_none test [] none = refl
count_none {X} test (x ∷ xs) none =
    sum_by-cons (λ y. cond (test y) 1 0) x xs
    ∙ ap (λ (b : Bool). cond b 1 0 + count_by test xs) (All-head (λ y. test y ≡ false) x xs none)
    ∙ ap (λ (n : ℕ). 0 + n) (count_none test xs (All-tail (λ y. test y ≡ false) x xs none))

none_inside : (c : PositionValue) (edges : List Segment) → All (λ edge. crosses c edge ≡ false) edges → is_inside c edges ≡ false
unfolding is_inside
none_inside c edges none = ap (λ (n : ℕ). n % 2 == 1) (count_none (crosses c) edges none)

pub inside_below : (c : PositionValue) (edges : List Segment) (level : ℤ) → is_less c.y level ≡ true → All (λ edge. (level ≤ℤ edge.from.y) × (level ≤ℤ edge.to.y)) edges → is_inside c edges ≡ false
inside_below c edges level below ends = none_inside c edges
    (All-weaker (λ edge. (level ≤ℤ edge.from.y) × (level ≤ℤ edge.to.y)) (λ edge. crosses c edge ≡ false) (λ edge e. crosses_below c edge level below e.0 e.1) edges ends)

pub inside_above : (c : PositionValue) (edges : List Segment) (level : ℤ) → is_less c.y level ≡ false → All (λ edge. (edge.from.y ≤ℤ level) × (edge.to.y ≤ℤ level)) edges → is_inside c edges ≡ false
inside_above c edges level above ends = none_inside c edges
    (All-weaker (λ edge. (edge.from.y ≤ℤ level) × (edge.to.y ≤ℤ level)) (λ edge. crosses c edge ≡ false) (λ edge e. crosses_above c edge level above e.0 e.1) edges ends)

-- ---- columns between sorted crossings

-- of the elements, those from the k-th on lie above
pub count_above : (xs : List ℕ) (k u : ℕ) → ((j : ℕ) → j < k → get_or xs j 0 ≤ u) → ((j : ℕ) → k ≤ j → j < length xs → u < get_or xs j 0) → count_by (nat_lt u) xs ≡ length xs - k
count_above [] k u below above = omega arith
count_above (x ∷ xs) zero u below above =
    sum_by-cons (λ y. cond (nat_lt u y) 1 0) x xs
    ∙ ap (λ (b : Bool). cond b 1 0 + count_by (nat_lt u) xs) (lt-ltb u x (above 0 (omega arith) (omega arith)))
    ∙ ap (λ (n : ℕ). 1 + n) (count_above xs 0 u (λ j none. absurd (omega arith)) (λ j from within. above (suc j) (omega arith) (omega arith)))
    ∙ omega arith
count_above (x ∷ xs) (suc k) u below above =
    sum_by-cons (λ y. cond (nat_lt u y) 1 0) x xs
    ∙ ap (λ (b : Bool). cond b 1 0 + count_by (nat_lt u) xs) (le-ltb u x (below 0 (omega arith)))
    ∙ ap (λ (n : ℕ). 0 + n) (count_above xs k u (λ j before. below (suc j) (omega arith)) (λ j from within. above (suc j) (omega arith) (omega arith)))
    ∙ omega arith

-- ---- the lowest and the highest end

pub ends_above_more : (edges : List Segment) (i : ℕ) (edge : Segment) (low next : ℤ) → i < length edges → edge ≡ get_or edges i edge →
    next ≤ℤ low → next ≤ℤ edge.from.y → next ≤ℤ edge.to.y →
    All (λ (e : Segment). (low ≤ℤ e.from.y) × (low ≤ℤ e.to.y)) (take i edges) → All (λ (e : Segment). (next ≤ℤ e.from.y) × (next ≤ℤ e.to.y)) (take (i + 1) edges)
ends_above_more edges i edge low next here is lower from to before =
    All-more (λ (e : Segment). (next ≤ℤ e.from.y) × (next ≤ℤ e.to.y)) edges i edge here
    (All-weaker (λ (e : Segment). (low ≤ℤ e.from.y) × (low ≤ℤ e.to.y)) (λ (e : Segment). (next ≤ℤ e.from.y) × (next ≤ℤ e.to.y)) (λ e ends. (omega (arith, ints, ends.0), omega (arith, ints, ends.1))) (take i edges) before)
    (subst (λ (e : Segment). (next ≤ℤ e.from.y) × (next ≤ℤ e.to.y)) is (from, to))

pub ends_below_more : (edges : List Segment) (i : ℕ) (edge : Segment) (high next : ℤ) → i < length edges → edge ≡ get_or edges i edge →
    high ≤ℤ next → edge.from.y ≤ℤ next → edge.to.y ≤ℤ next →
    All (λ (e : Segment). (e.from.y ≤ℤ high) × (e.to.y ≤ℤ high)) (take i edges) → All (λ (e : Segment). (e.from.y ≤ℤ next) × (e.to.y ≤ℤ next)) (take (i + 1) edges)
ends_below_more edges i edge high next here is higher from to before =
    All-more (λ (e : Segment). (e.from.y ≤ℤ next) × (e.to.y ≤ℤ next)) edges i edge here
    (All-weaker (λ (e : Segment). (e.from.y ≤ℤ high) × (e.to.y ≤ℤ high)) (λ (e : Segment). (e.from.y ≤ℤ next) × (e.to.y ≤ℤ next)) (λ e ends. (omega (arith, ints, ends.0), omega (arith, ints, ends.1))) (take i edges) before)
    (subst (λ (e : Segment). (e.from.y ≤ℤ next) × (e.to.y ≤ℤ next)) is (from, to))
