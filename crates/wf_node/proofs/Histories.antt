-- Histories that have the same definition at each sequence.
use Rattle.std.proofs.Common.{◌≡◌, ℕ, suc, ◌+◌, ◌<◌, ◌≤◌, ◌==◌, List, [], ◌∷◌, ◌++◌, length, slice_get, Some, if◌then◌else◌, refl, sym, ◌∙◌, ap, arith, eq-eqb}
use Rattle.std.proofs.lemmas.Option.{none-some}
use Rattle.wf_def.specs.Definition.{Definition}
use Rattle.wf_model.specs.DurableState.{definition_at}
use Rattle.wf_learner.specs.History.{with_chosen}

some_is : {A : Type 0} (x y : A) → Some x ≡ Some y → x ≡ y
some_is x y is = cc is

-- Lists as long as one another with the same at each index are equal.
same_lists : {A : Type 0} (xs ys : List A) → length xs ≡ length ys → ((k : ℕ) → k < length ys → slice_get xs k ≡ slice_get ys k) → xs ≡ ys
same_lists [] [] as_many alike = refl
same_lists [] (y ∷ ys) as_many alike = absurd (none-some y (alike 0 (omega arith)))
same_lists (x ∷ xs) [] as_many alike = absurd (omega (arith, as_many))
same_lists (x ∷ xs) (y ∷ ys) as_many alike =
    let rest : xs ≡ ys = same_lists xs ys (omega (arith, as_many)) (λ k below. alike (suc k) (omega (arith, below))) in
    λ i. some_is x y (alike 0 (omega arith)) i ∷ rest i

-- A list with one more than another, with the same at each index of that, is that one followed by
-- its last.
one_more : {A : Type 0} (xs ys : List A) (z : A) → length xs ≡ length ys + 1 → ((k : ℕ) → k < length ys → slice_get xs k ≡ slice_get ys k) → slice_get xs (length ys) ≡ Some z →
    xs ≡ ys ++ z ∷ []
one_more [] [] z as_many alike last = absurd (omega (arith, as_many))
one_more [] (y ∷ ys) z as_many alike last = absurd (omega (arith, as_many))
one_more (x ∷ xs) [] z as_many alike last =
    let rest : xs ≡ [] = same_lists xs [] (omega (arith, as_many)) (λ k below. absurd (omega (arith, below))) in
    λ i. some_is x z last i ∷ rest i
one_more (x ∷ xs) (y ∷ ys) z as_many alike last =
    let rest : xs ≡ ys ++ z ∷ [] = one_more xs ys z (omega (arith, as_many)) (λ k below. alike (suc k) (omega (arith, below))) last in
    λ i. some_is x y (alike 0 (omega arith)) i ∷ rest i

module _ (history other : List Definition) (alike : (s : ℕ) → 1 ≤ s → s ≤ length other → definition_at history s ≡ definition_at other s) where
  by_index : (k : ℕ) → k < length other → slice_get history k ≡ slice_get other k
  unfolding definition_at
  by_index k below = alike (suc k) (omega arith) (omega (arith, below))

  pub same_where_alike : length history ≡ length other → history ≡ other
  same_where_alike as_many = same_lists history other as_many by_index

  pub followed_where_alike : (s : ℕ) (d : Definition) → s ≡ length other + 1 → length history ≡ s → definition_at history s ≡ Some d → history ≡ with_chosen other s d
  unfolding definition_at
  followed_where_alike s d next as_many last =
      let before : suc (length other) ≡ s = omega (arith, next) in
      let at : slice_get history (length other) ≡ Some d = ap (definition_at history) before ∙ last in
      let is : history ≡ other ++ d ∷ [] = one_more history other d (as_many ∙ next) by_index at in
      is ∙ sym (ap (λ b. if b then other ++ d ∷ [] else other) (ap (λ (t : ℕ). t == length other + 1) next ∙ eq-eqb (length other + 1) (length other + 1) refl))
