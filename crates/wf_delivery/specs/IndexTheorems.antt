-- The entries of a list after one of them is set.
use Rattle.std.proofs.Common.{◌≡◌, ℕ, zero, suc, List, [], ◌∷◌, slice_get, slice_set, Some, refl, sym, ap}
use Rattle.wf_delivery.specs.Common.{none-some, same_Some}

-- the entry at the index is the one that was set
pub get_set_same : {A : Type 0} (xs : List A) (i : ℕ) (x y z : A) → slice_get xs i ≡ Some y → slice_get (slice_set xs i x) i ≡ Some z → x ≡ z
get_set_same [] i x y z e h = absurd (none-some y e)
get_set_same (w ∷ xs) zero x y z e h = same_Some x z h
get_set_same (w ∷ xs) (suc i) x y z e h = get_set_same xs i x y z e h

-- every other entry is unchanged
pub get_set_other : {A : Type 0} (xs : List A) (i j : ℕ) (x : A) → (j ≡ i → ⊥) → slice_get (slice_set xs i x) j ≡ slice_get xs j
get_set_other [] i j x differs = refl
get_set_other (z ∷ xs) zero zero x differs = absurd (differs refl)
get_set_other (z ∷ xs) zero (suc j) x differs = refl
get_set_other (z ∷ xs) (suc i) zero x differs = refl
get_set_other (z ∷ xs) (suc i) (suc j) x differs = get_set_other xs i j x (λ e. differs (ap suc e))

-- an entry set at an index in range is found there
pub set_there : {A : Type 0} (xs : List A) (i : ℕ) (x y : A) → slice_get xs i ≡ Some y → slice_get (slice_set xs i x) i ≡ Some x
set_there [] i x y e = absurd (none-some y e)
set_there (z ∷ xs) zero x y e = refl
set_there (z ∷ xs) (suc i) x y e = set_there xs i x y e

-- setting an entry to itself
pub set_same : {A : Type 0} (xs : List A) (i : ℕ) (x : A) → slice_get xs i ≡ Some x → slice_set xs i x ≡ xs
set_same [] i x e = refl
set_same (y ∷ xs) zero x e = ap (λ z. z ∷ xs) (sym (same_Some y x e))
set_same (y ∷ xs) (suc i) x e = ap (λ zs. y ∷ zs) (set_same xs i x e)

-- setting an entry twice
pub set_twice : {A : Type 0} (xs : List A) (i : ℕ) (x y : A) → slice_set (slice_set xs i x) i y ≡ slice_set xs i y
set_twice [] i x y = refl
set_twice (z ∷ xs) zero x y = refl
set_twice (z ∷ xs) (suc i) x y = ap (λ zs. z ∷ zs) (set_twice xs i x y)
