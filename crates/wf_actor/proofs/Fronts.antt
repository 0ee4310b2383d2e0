-- The first of what waits.
use Rattle.std.proofs.Common.{◌≡◌, ◌≢◌, ℕ, zero, suc, ◌≤◌, true, false, List, [], ◌∷◌, length, slice_get, Option, Some, None, Bor, refl, sym, ap, subst, ◌∙◌, arith}
use Rattle.std.specs.Prelude.{IfSome, is_some}
use Rattle.std.specs.Slice.{IsItemAt}
use Rattle.std.proofs.lemmas.Bool.{false≢true}

-- what a queue lends is its first element
pub front_is : {A : Type 0} (xs : List A) (r : Option (Bor A)) → IsItemAt xs 0 r → IfSome r (λ m. (rest : List A) × (xs ≡ m.now ∷ rest))
front_is xs None item = tt
front_is [] (Some m) item = absurd (false≢true (sym item.0))
front_is (x ∷ xs) (Some m) item = (xs, ap (λ y. y ∷ xs) (sym item.1))

pub no_front : {A : Type 0} (xs : List A) (r : Option (Bor A)) → IsItemAt xs 0 r → r ≡ None → xs ≡ []
no_front [] r item none = refl
no_front (x ∷ xs) r item none = absurd (false≢true (subst (λ o. is_some o ≡ true) none (item.2 (omega arith))))
