-- Membership in lists that grow at their end.
use Rattle.std.proofs.Common.{◌≡◌, ◌⊎◌, ℕ, zero, suc, List, [], ◌∷◌, ◌++◌, slice_get, Some, refl, sym, inl, inr}
use Rattle.std.proofs.lemmas.Option.{none-some, same_Some}
use Rattle.wf_model.specs.Chosen.{IsIn}

-- what is in a list is in a longer one
pub member-before : {A : Type 0} (x : A) (xs ys : List A) → IsIn x xs → IsIn x (xs ++ ys)
member-before x [] ys h = absurd h
member-before x (y ∷ xs) ys (inl e) = inl e
member-before x (y ∷ xs) ys (inr h) = inr (member-before x xs ys h)

pub member-last : {A : Type 0} (x : A) (xs : List A) → IsIn x (xs ++ x ∷ [])
member-last x [] = inl refl
member-last x (y ∷ xs) = inr (member-last x xs)

-- what is in a longer list is in one of its parts
pub member-parts : {A : Type 0} (x : A) (xs ys : List A) → IsIn x (xs ++ ys) → IsIn x xs ⊎ IsIn x ys
member-parts x [] ys h = inr h
member-parts x (z ∷ xs) ys (inl e) = inl (inl e)
member-parts x (z ∷ xs) ys (inr h) = moved (member-parts x xs ys h)
  where
    moved : IsIn x xs ⊎ IsIn x ys → IsIn x (z ∷ xs) ⊎ IsIn x ys
    moved (inl k) = inl (inr k)
    moved (inr k) = inr k

-- what is in a list with one more element was there, or is that element
pub member-split : {A : Type 0} (x : A) (xs : List A) (y : A) → IsIn x (xs ++ y ∷ []) → IsIn x xs ⊎ (x ≡ y)
member-split x xs y h = elim (member-parts x xs (y ∷ []) h) [ inl k ↦ inl k | inr (inl e) ↦ inr e | inr (inr k) ↦ absurd k ]

-- an element found by its number is in the list
pub member-found : {A : Type 0} (x : A) (xs : List A) (k : ℕ) → slice_get xs k ≡ Some x → IsIn x xs
member-found x [] k e = absurd (none-some x e)
member-found x (y ∷ xs) zero e = inl (sym (same_Some y x e))
member-found x (y ∷ xs) (suc k) e = inr (member-found x xs k e)
