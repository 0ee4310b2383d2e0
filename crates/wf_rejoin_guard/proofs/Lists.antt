-- Lists by their elements.
use Rattle.std.proofs.Common.{◌≡◌, ◌⊎◌, ℕ, zero, suc, ◌+◌, ◌<◌, ◌≤◌, List, [], ◌∷◌, ◌++◌, length, take, map, slice_get, Some, refl, sym, ap, ◌∙◌, inl, inr, arith}
use Rattle.std.proofs.lemmas.Option.{none-some, same_Some}
use Rattle.wf_model.specs.Chosen.{IsIn}
use Rattle.wf_model.specs.DurableState.{definition_at}
use Rattle.wf_safety.specs.Theorems.{IsBeginning}

module _ {A : Type 0} where
  -- ---- what is in a list

  pub in_map : {B : Type 0} (f : A → B) (x : A) (xs : List A) → IsIn x xs → IsIn (f x) (map f xs)
  in_map f x [] is_in = absurd is_in
  in_map f x (y ∷ xs) (inl same) = inl (ap f same)
  in_map f x (y ∷ xs) (inr is_in) = inr (in_map f x xs is_in)

  pub in_either : (x : A) (xs ys : List A) → IsIn x (xs ++ ys) → IsIn x xs ⊎ IsIn x ys
  in_either x [] ys is_in = inr is_in
  in_either x (y ∷ xs) ys (inl same) = inl (inl same)
  in_either x (y ∷ xs) ys (inr is_in) = elim (in_either x xs ys is_in) [
    | inl first ↦ inl (inr first)
    | inr later ↦ inr later
  ]

  -- ---- an element at a place

  pub get_within : (xs : List A) (k : ℕ) (x : A) → slice_get xs k ≡ Some x → k < length xs
  get_within [] k x at = absurd (none-some x at)
  get_within (y ∷ xs) zero x at = omega arith
  get_within (y ∷ xs) (suc k) x at = let less = get_within xs k x at in omega (arith, less)

  -- what the first k elements have, the list has
  pub get_taken : (k m : ℕ) (xs : List A) (x : A) → slice_get (take k xs) m ≡ Some x → (m < k) × (slice_get xs m ≡ Some x)
  get_taken zero m xs x at = absurd (none-some x at)
  get_taken (suc k) m [] x at = absurd (none-some x at)
  get_taken (suc k) zero (y ∷ xs) x at = (omega arith, at)
  get_taken (suc k) (suc m) (y ∷ xs) x at =
      let so = get_taken k m xs x at in
      let less : m < k = so.0 in
      (omega (arith, less), so.1)

  get_last : (xs : List A) (k : ℕ) (x : A) → k ≡ length xs → slice_get (xs ++ x ∷ []) k ≡ Some x
  get_last [] zero x e = refl
  get_last [] (suc k) x e = absurd (omega (arith, e))
  get_last (y ∷ xs) zero x e = absurd (omega (arith, e))
  get_last (y ∷ xs) (suc k) x e = get_last xs k x (omega (arith, e))

  pub last_at : (xs : List A) (s : ℕ) (x : A) → s ≡ length xs + 1 → definition_at (xs ++ x ∷ []) s ≡ Some x
  unfolding definition_at
  last_at xs zero x e = absurd (omega (arith, e))
  last_at xs (suc k) x e = get_last xs k x (omega (arith, e))

  last_or_get : (xs : List A) (k : ℕ) (x y : A) → slice_get (xs ++ x ∷ []) k ≡ Some y → (slice_get xs k ≡ Some y) ⊎ ((k ≡ length xs) × (x ≡ y))
  last_or_get [] zero x y at = inr (refl, same_Some x y at)
  last_or_get [] (suc k) x y at = absurd (none-some y at)
  last_or_get (z ∷ xs) zero x y at = inl at
  last_or_get (z ∷ xs) (suc k) x y at = elim (last_or_get xs k x y at) [
    | inl before ↦ inl before
    | inr here ↦ inr (ap suc here.0, here.1)
  ]

  -- with one more at the end: an earlier one, or that
  pub last_or_at : (xs : List A) (s : ℕ) (x y : A) → definition_at (xs ++ x ∷ []) s ≡ Some y → (definition_at xs s ≡ Some y) ⊎ ((s ≡ length xs + 1) × (x ≡ y))
  unfolding definition_at
  last_or_at xs zero x y at = absurd (none-some y at)
  last_or_at xs (suc k) x y at = elim (last_or_get xs k x y at) [
    | inl before ↦ inl before
    | inr here ↦ let same : k ≡ length xs = here.0 in inr (omega (arith, same), here.1)
  ]

  pub none_at : (s : ℕ) (x : A) → definition_at [] s ≡ Some x → ⊥
  unfolding definition_at
  none_at zero x at = none-some x at
  none_at (suc k) x at = none-some x at

  -- ---- beginnings

  pub get_longer : (xs ys : List A) (k : ℕ) (x : A) → slice_get xs k ≡ Some x → slice_get (xs ++ ys) k ≡ Some x
  get_longer [] ys k x at = absurd (none-some x at)
  get_longer (y ∷ xs) ys zero x at = at
  get_longer (y ∷ xs) ys (suc k) x at = get_longer xs ys k x at

  pub get_shorter : (xs ys : List A) (k : ℕ) (x : A) → k < length xs → slice_get (xs ++ ys) k ≡ Some x → slice_get xs k ≡ Some x
  get_shorter [] ys k x less at = absurd (omega (arith, less))
  get_shorter (y ∷ xs) ys zero x less at = at
  get_shorter (y ∷ xs) ys (suc k) x less at = get_shorter xs ys k x (omega (arith, less)) at

  -- a list whose elements another has begins it
  pub begins_by_each : (xs ys : List A) → ((k : ℕ) (x : A) → slice_get xs k ≡ Some x → slice_get ys k ≡ Some x) → IsBeginning xs ys
  begins_by_each [] ys each = (ys, refl)
  begins_by_each (x ∷ xs) [] each = absurd (none-some x (each 0 x refl))
  begins_by_each (x ∷ xs) (y ∷ ys) each =
      let same : y ≡ x = same_Some y x (each 0 x refl) in
      let later = begins_by_each xs ys (λ k z at. each (suc k) z at) in
      (later.0, ap (λ zs. x ∷ zs) later.1 ∙ ap (λ z. z ∷ ys) (sym same))

  -- the last element of a list that isn't empty
  pub record HasLast (xs : List A) : Type 0 where
    pub place : ℕ
    pub element : A
    pub at : slice_get xs place ≡ Some element
    pub is_last : suc place ≡ length xs

  pub has_last : (xs : List A) → 1 ≤ length xs → HasLast xs
  has_last [] some = absurd (omega (arith, some))
  has_last (x ∷ []) some = record { place = 0; element = x; at = refl; is_last = refl }
  has_last (x ∷ y ∷ xs) some =
      let rest = has_last (y ∷ xs) (omega arith) in
      record { place = suc rest.place; element = rest.element; at = rest.at; is_last = ap suc rest.is_last }
