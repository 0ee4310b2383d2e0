-- One history of lists that agree wherever two of them have an element.
use Rattle.std.proofs.Common.{◌≡◌, ◌⊎◌, ℕ, zero, suc, ◌<◌, ◌≤◌, List, [], ◌∷◌, ◌++◌, slice_get, Some, refl, sym, ap, subst, ◌∙◌, inl, inr, arith}
use Rattle.std.proofs.lemmas.Bool.{cases_lt}
use Rattle.std.proofs.lemmas.Option.{none-some}
use Rattle.wf_safety.specs.Theorems.{IsBeginning}
use Rattle.wf_model.specs.DurableState.{definition_at}
use Rattle.wf_trace.proofs.Growth.{begins_itself, begins_through}

-- ---- lists of which one begins the other

-- an element of a list's beginning is one of the list
at_longer : {A : Type 0} (xs ys : List A) (k : ℕ) (x : A) → slice_get xs k ≡ Some x → slice_get (xs ++ ys) k ≡ Some x
at_longer [] ys k x at = absurd (none-some x at)
at_longer (y ∷ xs) ys zero x at = at
at_longer (y ∷ xs) ys (suc k) x at = at_longer xs ys k x at

pub published_longer : {V : Type 0} (xs ys : List V) (s : ℕ) (d : V) → IsBeginning xs ys → definition_at xs s ≡ Some d → definition_at ys s ≡ Some d
unfolding definition_at
published_longer xs ys zero d begins at = absurd (none-some d at)
published_longer xs ys (suc k) d begins at = subst (λ zs. slice_get zs k ≡ Some d) begins.1 (at_longer xs begins.0 k d at)

-- Of two lists that have the same elements wherever both have one, one begins the other.
AreAlike : {A : Type 0} → List A → List A → Type 0
AreAlike {A} xs ys = (k : ℕ) (x y : A) → slice_get xs k ≡ Some x → slice_get ys k ≡ Some y → x ≡ y

one_begins : {A : Type 0} (xs ys : List A) → AreAlike xs ys → IsBeginning xs ys ⊎ IsBeginning ys xs
unfolding AreAlike
one_begins [] ys alike = inl (ys, refl)
one_begins (x ∷ xs) [] alike = inr (x ∷ xs, refl)
one_begins (x ∷ xs) (y ∷ ys) alike =
    let first : x ≡ y = alike zero x y refl refl in
    elim (one_begins xs ys (λ k a b at other. alike (suc k) a b at other)) [
      | inl begins ↦ inl (begins.0, ap (λ z. z ∷ (xs ++ begins.0)) first ∙ ap (λ zs. y ∷ zs) begins.1)
      | inr begins ↦ inr (begins.0, ap (λ z. z ∷ (ys ++ begins.0)) (sym first) ∙ ap (λ zs. x ∷ zs) begins.1)
    ]

-- ---- one history

module _ {V : Type 0} (n : ℕ) (lists : ℕ → List V) (alike : (i j s : ℕ) (c d : V) → i < n → j < n → definition_at (lists i) s ≡ Some c → definition_at (lists j) s ≡ Some d → c ≡ d) where
  -- a list of which each of the first k lists is a beginning, and which is one of them or has
  -- nothing
  record Longest (k : ℕ) : Type 0 where
    list : List V
    each : (i : ℕ) → i < k → IsBeginning (lists i) list
    whose : (list ≡ []) ⊎ ((i : ℕ) × (i < n) × (list ≡ lists i))

  alike_longest : (k : ℕ) → k < n → (so : List V) → ((so ≡ []) ⊎ ((i : ℕ) × (i < n) × (so ≡ lists i))) → AreAlike (lists k) so
  unfolding AreAlike definition_at
  alike_longest k is_member so (inl none) s x y at other = absurd (none-some y (ap (λ zs. slice_get zs s) (sym none) ∙ other))
  alike_longest k is_member so (inr whose) s x y at other =
      alike k whose.0 (suc s) x y is_member whose.1 at (ap (λ zs. slice_get zs s) (sym whose.2) ∙ other)

  longer : (k : ℕ) → k < n → (so : Longest k) → IsBeginning (lists k) so.list ⊎ IsBeginning so.list (lists k) → Longest (suc k)
  longer k is_member so (inl begins) = record {
    list = so.list;
    each = λ i less. elim (cases_lt i k) [
      | inl lower ↦ so.each i lower
      | inr last ↦
          let it : i ≡ k = omega (arith, less, last) in
          subst (λ j. IsBeginning (lists j) so.list) (sym it) begins
    ];
    whose = so.whose;
  }
  longer k is_member so (inr begins) = record {
    list = lists k;
    each = λ i less. elim (cases_lt i k) [
      | inl lower ↦ begins_through (lists i) so.list (lists k) (so.each i lower) begins
      | inr last ↦
          let it : i ≡ k = omega (arith, less, last) in
          subst (λ j. IsBeginning (lists j) (lists k)) (sym it) (begins_itself (lists k))
    ];
    whose = inr (k, is_member, refl);
  }

  longest : (k : ℕ) → k ≤ n → Longest k
  longest zero within = record { list = []; each = λ i less. absurd (omega (arith, less)); whose = inl refl }
  longest (suc k) within =
      let so = longest k (omega (arith, within)) in
      let is_member : k < n = omega (arith, within) in
      longer k is_member so (one_begins (lists k) so.list (alike_longest k is_member so.list so.whose))

  pub longest_of_all : (history : List V) × ((i : ℕ) → i < n → IsBeginning (lists i) history)
  longest_of_all = let so = longest n (omega arith) in (so.list, so.each)
