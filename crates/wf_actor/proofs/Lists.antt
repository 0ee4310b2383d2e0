-- Lists that are cut at a bound, and members of lists.
use Rattle.std.proofs.Common.{◌≡◌, ◌⊎◌, ℕ, zero, suc, ◌+◌, ◌<◌, ◌≤◌, List, [], ◌∷◌, ◌++◌, length, take, map, Result, Ok, Err, refl, sym, ap, subst, ◌∙◌, inl, inr, append_assoc, arith, get_or, length-append}
use Rattle.std.specs.Prelude.{is_ok, OnErr, if◌then◌else◌}
use Rattle.std.proofs.lemmas.List.{map-append, take_more}
use Rattle.wf_model.specs.Chosen.{IsIn}

-- ---- lists that are cut

pub take_whole : {A : Type 0} (n : ℕ) (xs : List A) → length xs ≤ n → take n xs ≡ xs
take_whole zero [] le = refl
take_whole zero (x ∷ xs) le = absurd (omega (arith, le))
take_whole (suc n) [] le = refl
take_whole (suc n) (x ∷ xs) le = ap (λ l. x ∷ l) (take_whole n xs (omega (arith, le)))

-- one more than there is room for
pub take_full : {A : Type 0} (n : ℕ) (xs : List A) (x : A) → length xs ≡ n → take n (xs ++ x ∷ []) ≡ xs
take_full zero [] x e = refl
take_full zero (y ∷ xs) x e = absurd (omega (arith, e))
take_full (suc n) [] x e = absurd (omega (arith, e))
take_full (suc n) (y ∷ xs) x e = ap (λ l. y ∷ l) (take_full n xs x (omega (arith, e)))

-- what is cut before, and again after more
pub take_again : {A : Type 0} (n : ℕ) (xs ys : List A) → take n (take n xs ++ ys) ≡ take n (xs ++ ys)
take_again zero xs ys = refl
take_again (suc n) [] ys = refl
take_again (suc n) (x ∷ xs) ys = ap (λ l. x ∷ l) (take_again n xs ys)

pub pushed : {A U E : Type 0} (n len room : ℕ) (r : Result U E) (old new : List A) (x : A) → new ≡ (if is_ok r then old ++ x ∷ [] else old) → OnErr r (room ≤ len) → len < room → length old < n → new ≡ take n (old ++ x ∷ [])
pushed n len room (Ok u) old new x e full less fits = e ∙ sym (take_whole n (old ++ x ∷ []) (omega (arith, fits, length-append old (x ∷ []))))
pushed n len room (Err f) old new x e full less fits = absurd (omega (arith, full, less))

-- ---- members of lists

pub in_left : {A : Type 0} (x : A) (xs ys : List A) → IsIn x xs → IsIn x (xs ++ ys)
in_left x [] ys is = absurd is
in_left x (y ∷ xs) ys is = elim is [ inl e ↦ inl e | inr h ↦ inr (in_left x xs ys h) ]

pub in_right : {A : Type 0} (x : A) (xs ys : List A) → IsIn x ys → IsIn x (xs ++ ys)
in_right x [] ys is = is
in_right x (y ∷ xs) ys is = inr (in_right x xs ys is)

pub in_either : {A : Type 0} (x : A) (xs ys : List A) → IsIn x (xs ++ ys) → IsIn x xs ⊎ IsIn x ys
in_either x [] ys is = inr is
in_either x (y ∷ xs) ys is = elim is [ inl e ↦ inl (inl e) | inr h ↦ elim (in_either x xs ys h) [ inl a ↦ inl (inr a) | inr b ↦ inr b ] ]

pub in_take : {A : Type 0} (n : ℕ) (x : A) (xs : List A) → IsIn x (take n xs) → IsIn x xs
in_take zero x [] is = absurd is
in_take zero x (y ∷ xs) is = absurd is
in_take (suc n) x [] is = absurd is
in_take (suc n) x (y ∷ xs) is = elim is [ inl e ↦ inl e | inr h ↦ inr (in_take n x xs h) ]

pub in_map : {A B : Type 0} (f : A → B) (x : A) (xs : List A) → IsIn x xs → IsIn (f x) (map f xs)
in_map f x [] is = absurd is
in_map f x (y ∷ xs) is = elim is [ inl e ↦ inl (ap f e) | inr h ↦ inr (in_map f x xs h) ]

pub in_along : {A : Type 0} (x : A) (xs ys : List A) → xs ≡ ys → IsIn x xs → IsIn x ys
in_along {A} x xs ys e is = subst (λ (l : List A). IsIn x l) e is

-- ---- elements at an index

-- one more element of a list, as it is seen
pub one_more_seen : {A B : Type 0} (f : A → B) (xs : List A) (i : ℕ) (x : A) → i < length xs → x ≡ get_or xs i x → map f (take (i + 1) xs) ≡ map f (take i xs) ++ f x ∷ []
one_more_seen {A} f xs i x lt e = ap (map f) (take_more xs i x lt ∙ ap (λ (y : A). take i xs ++ y ∷ []) (sym e)) ∙ map-append f (take i xs) (x ∷ [])

-- one more of these is cut at the bound
pub cut_more : {A : Type 0} (n : ℕ) (old now new taken : List A) (x : A) → now ≡ take n (old ++ taken) → new ≡ take n (now ++ x ∷ []) → new ≡ take n (old ++ (taken ++ x ∷ []))
cut_more {A} n old now new taken x was is =
    is ∙ ap (λ (l : List A). take n (l ++ x ∷ [])) was ∙ take_again n (old ++ taken) (x ∷ []) ∙ ap (take n) (append_assoc old taken (x ∷ []))

-- the parts of a list, after one more of it
pub parts_more : {A : Type 0} (all taken left rest : List A) (x : A) → taken ++ left ≡ all → left ≡ x ∷ rest → (taken ++ x ∷ []) ++ rest ≡ all
parts_more {A} all taken left rest x parts next = append_assoc taken (x ∷ []) rest ∙ ap (λ (l : List A). taken ++ l) (sym next) ∙ parts
