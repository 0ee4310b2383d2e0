-- A name's text is found in its bytes.
use Rattle.std.proofs.Common.{◌≡◌, ℕ, zero, suc, ◌+◌, ◌-◌, Bool, true, false, ◌&&◌, List, [], ◌∷◌, ◌++◌, length, take, drop, refl, sym, ap, subst, ◌∙◌, arith}
use Rattle.std.specs.Prelude.{replicate}
use Rattle.std.specs.List.{list_all, prefix_len}
use Rattle.std.proofs.lemmas.Bool.Decides.{nat_tests}
use Rattle.wf_folder.specs.Name.{IsFarmName, IsNameText, is_name_byte, isnt_zero, name_text, pad}

-- no byte of a name is zero
tested : (b : ℕ) → (b ≡ 0 → ⊥) → isnt_zero b ≡ true
tested b some = grind (arith, nat_tests)

name_byte : (b : ℕ) → is_name_byte b ≡ true → isnt_zero b ≡ true
name_byte b is = tested b (λ (e : b ≡ 0). let at_zero : is_name_byte 0 ≡ true = subst (λ (k : ℕ). is_name_byte k ≡ true) e is in cc)

zeros : (n : ℕ) → take {A = ℕ} (prefix_len isnt_zero (replicate n 0)) (replicate n 0) ≡ []
zeros zero = refl
zeros (suc n) = refl

and_both : (a b : Bool) → a && b ≡ true → (a ≡ true) × (b ≡ true)
and_both true b e = (refl, e)
and_both false b e = absurd cc

front_more : (p : ℕ → Bool) (b : ℕ) (rest text : List ℕ) → p b ≡ true → take {A = ℕ} (prefix_len p rest) rest ≡ text → take {A = ℕ} (prefix_len p (b ∷ rest)) (b ∷ rest) ≡ b ∷ text
front_more p b rest text passes e =
    let one : 1 + prefix_len p rest ≡ suc (prefix_len p rest) = omega arith in
    let step : take {A = ℕ} (1 + prefix_len p rest) (b ∷ rest) ≡ b ∷ take {A = ℕ} (prefix_len p rest) rest = ap (λ (k : ℕ). take {A = ℕ} k (b ∷ rest)) one in
    rw passes (step ∙ ap (λ (l : List ℕ). b ∷ l) e)

found : (text : List ℕ) (n : ℕ) → list_all is_name_byte text ≡ true → name_text (text ++ replicate n 0) ≡ text
found [] n each = zeros n
found (b ∷ text) n each =
    let both = and_both (is_name_byte b) (list_all is_name_byte text) each in
    front_more isnt_zero b (text ++ replicate n 0) text (name_byte b both.0) (found text n both.1)

pub name_again : (text : List ℕ) → IsNameText text → name_text (pad text) ≡ text
name_again text is = found text (32 - length text) is.each

pub padded_is_name : (text : List ℕ) → IsNameText text → IsFarmName (pad text)
padded_is_name text is =
    let same = name_again text is in
    record { text = subst IsNameText (sym same) is; whole = ap pad (sym same) }

-- a text written over the front of 32 zeros
drop-zeros : (n k : ℕ) → drop {A = ℕ} k (replicate n 0) ≡ replicate (n - k) 0
drop-zeros zero zero = refl
drop-zeros zero (suc k) = let same : zero ≡ zero - suc k = omega arith in ap (λ (m : ℕ). replicate m 0) same
drop-zeros (suc n) zero = let same : suc n ≡ suc n - zero = omega arith in ap (λ (m : ℕ). replicate m 0) same
drop-zeros (suc n) (suc k) = let same : n - k ≡ suc n - suc k = omega arith in drop-zeros n k ∙ ap (λ (m : ℕ). replicate m 0) same

pub written_over : (text front : List ℕ) → front ≡ text → front ++ drop {A = ℕ} (length text) (replicate 32 0) ≡ pad text
written_over text front e = ap (λ (f : List ℕ). f ++ drop {A = ℕ} (length text) (replicate 32 0)) e ∙ ap (λ (rest : List ℕ). text ++ rest) (drop-zeros 32 (length text))

pub is_farm_name : (bytes : List ℕ) → IsNameText (name_text bytes) → bytes ≡ pad (name_text bytes) → IsFarmName bytes
is_farm_name bytes text whole = record { text = text; whole = whole }
