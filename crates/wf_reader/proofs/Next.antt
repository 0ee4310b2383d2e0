-- The definitions after a sequence, one more at a time.
use Rattle.std.proofs.Common.{◌≡◌, ◌∙◌, ℕ, zero, suc, ◌+◌, ◌<◌, ◌≤◌, List, [], ◌∷◌, ◌++◌, length, take, drop, slice_get, refl, sym, ap, arith, lt_of_not-le}
use Rattle.std.specs.Prelude.{Option, Some, None}
use Rattle.std.specs.Option.{option_to_list}
use Rattle.std.proofs.lemmas.Option.{slice_get_past, slice_get_within}
use Rattle.wf_ballot.specs.Sequence.{last_sequence, IsSlot}
use Rattle.wf_def.specs.Definition.{Definition}
use Rattle.wf_model.specs.DurableState.{definition_at}

-- one more of a list
one_more : (k : ℕ) (list : List Definition) → take (suc k) list ≡ take k list ++ option_to_list (slice_get list k)
one_more zero [] = refl
one_more (suc k) [] = refl
one_more zero (x ∷ list) = refl
one_more (suc k) (x ∷ list) = ap (λ (l : List Definition). x ∷ l) (one_more k list)

-- an index after the first s
drop_index : (s k i : ℕ) (list : List Definition) → i ≡ s + k → slice_get (drop s list) k ≡ slice_get list i
drop_index zero k i list is = let same : k ≡ i = omega (arith, is) in ap (slice_get list) same
drop_index (suc s) k i [] is = refl
drop_index (suc s) k zero (x ∷ list) is = absurd (omega (arith, is))
drop_index (suc s) k (suc i) (x ∷ list) is = drop_index s k i list (omega (arith, is))

pub next_found : (history : List Definition) (seq first k number : ℕ) (found more : List Definition) → first ≡ seq → number ≡ first + k + 1 → found ≡ take k (drop seq history) →
    more ≡ found ++ option_to_list (definition_at history number) → more ≡ take (suc k) (drop seq history)
unfolding definition_at
next_found history seq first k number found more same is so_far one =
    let index : number ≡ suc (seq + k) = omega (arith, same, is) in
    let front : List Definition = take k (drop seq history) in
    one ∙ ap (λ (l : List Definition). l ++ option_to_list (definition_at history number)) so_far
    ∙ ap (λ (n : ℕ). front ++ option_to_list (definition_at history n)) index
    ∙ sym (one_more k (drop seq history) ∙ ap (λ (o : Option Definition). front ++ option_to_list o) (drop_index seq k (seq + k) history refl))

-- a number that isn't a slot's has no definition
pub no_definition : (history : List Definition) (number : ℕ) → 1 ≤ number → length history ≤ last_sequence → (IsSlot number → ⊥) → definition_at history number ≡ None
unfolding definition_at
no_definition history zero least most not_slot = absurd (omega (arith, least))
no_definition history (suc k) least most not_slot =
    let past : last_sequence < suc k = lt_of_not-le (λ small. not_slot (record { from_one = omega arith; to_last = small })) in
    slice_get_past history k (omega (arith, past, most))

pub is_published : (history : List Definition) (number : ℕ) (d : Definition) → definition_at history number ≡ Some d → number ≤ length history
unfolding definition_at
is_published history zero d is = omega arith
is_published history (suc k) d is = let within : k < length history = slice_get_within history k d is in omega (arith, within)
