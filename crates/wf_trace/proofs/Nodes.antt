-- The nodes of a world, as a list and as a function.
use Rattle.std.proofs.Common.{◌≡◌, ◌≢◌, ℕ, zero, suc, ◌<◌, List, [], ◌∷◌, replicate, slice_get, slice_set, Some, refl, sym, ap, arith}
use Rattle.std.proofs.lemmas.Option.{none-some, same_Some}

-- the element that was set is there
pub set_there : {A : Type 0} (xs : List A) (i : ℕ) (x y : A) → slice_get xs i ≡ Some y → slice_get (slice_set xs i x) i ≡ Some x
set_there [] i x y at = absurd (none-some y at)
set_there (z ∷ xs) zero x y at = refl
set_there (z ∷ xs) (suc i) x y at = set_there xs i x y at

-- every other element is unchanged
pub set_elsewhere : {A : Type 0} (xs : List A) (i j : ℕ) (x : A) → j ≢ i → slice_get (slice_set xs i x) j ≡ slice_get xs j
set_elsewhere [] i j x differs = refl
set_elsewhere (z ∷ xs) zero zero x differs = absurd (differs refl)
set_elsewhere (z ∷ xs) zero (suc j) x differs = refl
set_elsewhere (z ∷ xs) (suc i) zero x differs = refl
set_elsewhere (z ∷ xs) (suc i) (suc j) x differs = set_elsewhere xs i j x (λ e. differs (ap suc e))

-- an element set to itself changes nothing
pub set_itself : {A : Type 0} (xs : List A) (i : ℕ) (x : A) → slice_get xs i ≡ Some x → slice_set xs i x ≡ xs
set_itself [] i x at = absurd (none-some x at)
set_itself (y ∷ xs) zero x at = ap (λ z. z ∷ xs) (sym (same_Some y x at))
set_itself (y ∷ xs) (suc i) x at = ap (λ zs. y ∷ zs) (set_itself xs i x at)

-- each of equal elements is that one
pub all_alike : {A : Type 0} (n i : ℕ) (x : A) → i < n → slice_get (replicate n x) i ≡ Some x
all_alike zero i x less = absurd (omega (arith, less))
all_alike (suc n) zero x less = refl
all_alike (suc n) (suc i) x less = all_alike n i x (omega (arith, less))
