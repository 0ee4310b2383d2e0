-- Two histories, compared sequence by sequence.
use Rattle.std.proofs.Common.{◌≡◌, ◌∙◌, ◌+◌, ◌<◌, ◌≤◌, ℕ, zero, suc, List, length, refl, sym, subst, inl, inr, arith}
use Rattle.std.proofs.lemmas.Bool.{cases_eq, cases_lt}
use Rattle.std.proofs.lemmas.Option.{none-some, same_Some, slice_get_past}
use Rattle.std.specs.Prelude.{Some, None}
use Rattle.wf_def.specs.Definition.{Definition}
use Rattle.wf_model.specs.DurableState.{definition_at}
use Rattle.wf_serve.specs.Difference.{Agree, AgreeAt, DifferAt}

pub none_past : (definitions : List Definition) (s : ℕ) → length definitions < s → definition_at definitions s ≡ None
unfolding definition_at
none_past definitions zero past = refl
none_past definitions (suc k) past = slice_get_past definitions k (omega (arith, past))

-- sequence 0 has no definition
pub at_zero : (first second : List Definition) (s : ℕ) → s ≤ 0 → AgreeAt first second s
unfolding definition_at
at_zero first second zero least d e is other = absurd (none-some d is)
at_zero first second (suc k) least d e is other = absurd (omega (arith, least))

-- nor has one past the last
at_past : (first second : List Definition) (s : ℕ) → length first < s → AgreeAt first second s
at_past first second s past d e is other = absurd (none-some d (sym (none_past first s past) ∙ is))

-- both have one, and the same
pub same_here : (first second : List Definition) (slot n : ℕ) (one other : Definition) → slot ≡ n → Some one ≡ definition_at first slot → Some other ≡ definition_at second slot → one ≡ other →
    AgreeAt first second n
same_here first second slot n one other at has also same =
    subst (λ (k : ℕ). AgreeAt first second k) at (λ d e is is_also. sym (same_Some one d (has ∙ is)) ∙ same ∙ same_Some other e (also ∙ is_also))

-- or different ones
pub other_here : (first second : List Definition) (slot : ℕ) (one other : Definition) → Some one ≡ definition_at first slot → Some other ≡ definition_at second slot → (one ≡ other → ⊥) →
    DifferAt first second slot
other_here first second slot one other has also different = (one, other, sym has, sym also, different)

-- up to one more sequence
pub one_further : (first second : List Definition) (n : ℕ) → ((s : ℕ) → s ≤ n → AgreeAt first second s) → AgreeAt first second (n + 1) → (s : ℕ) → s ≤ n + 1 → AgreeAt first second s
one_further first second n before next s within = elim (cases_eq s (n + 1)) [
  | inl same ↦ subst (λ (k : ℕ). AgreeAt first second k) (sym same) next
  | inr other ↦ before s (omega (arith, within, other))
]

-- up to the last, and so all
pub all_agree : (first second : List Definition) (n : ℕ) → length first ≤ n → ((s : ℕ) → s ≤ n → AgreeAt first second s) → Agree first second
all_agree first second n whole before s = elim (cases_lt n s) [
  | inl past ↦ at_past first second s (omega (arith, whole, past))
  | inr within ↦ before s within
]
