-- What replicas learn is a beginning of the one history.
use Rattle.std.proofs.Common.{◌≡◌, ◌⊎◌, ℕ, zero, suc, List, [], ◌∷◌, ◌++◌, length, slice_get, Option, Some, None, refl, sym, ap, subst, ◌∙◌, inl, inr, arith, append_assoc, eq-eqb, ne_eqb}
use Rattle.std.proofs.lemmas.Bool.{cases_eq}
use Rattle.std.proofs.lemmas.Option.{none-some, same_Some}
use Rattle.wf_def.specs.Definition.{Definition}
use Rattle.wf_safety.specs.Theorems.{IsBeginning}
use Rattle.wf_learner.specs.History.{with_chosen, next_of}
use Rattle.wf_model.specs.Chosen.{IsIn}
use Rattle.wf_model.specs.Message.{Message, Prepare, Promise, Accept, Accepted, Nack, Chosen, Ask}
use Rattle.wf_model.specs.DurableState.{definition_at}
use Rattle.wf_model.specs.Table.{reports_of, reports, reports_from, most_reports}
use Rattle.wf_tape.specs.declared.tape.Tape.{Ghosts as Tape}
use Rattle.wf_wms.specs.Answer.{AskedMapsAreAnsweredAlike, EachQueryHasOneAnswer}
use Rattle.wf_execution.specs.Execution.{Execution}
use Rattle.wf_execution.specs.Theorems.{HasOneHistory, OneHistory}
use Rattle.wf_execution.specs.Replica.{after_learning, IsListOfFarm, OfNode, Empty, Learned, OneServed, ServedAgree, ServedAnswer, ServedMapAnswer}
use Rattle.wf_execution.proofs.Lists.{definition_longer, one_definition}
use Rattle.wf_execution.proofs.OneAnswer.{one_answer, one_map_answer}

-- ---- what is told is in the list

-- a Chosen, as its sequence and definition
chosen_in : Message Definition → Option (ℕ × Definition)
chosen_in (Chosen s d) = Some (s, d)
chosen_in m = None

reported_of_is : (s t : ℕ) (d : Definition) (there : Option Definition) → IsIn (Chosen s d) (reports_of t there) → (s ≡ t) × (there ≡ Some d)
unfolding reports_of chosen_in
reported_of_is s t d None is_in = absurd is_in
reported_of_is s t d (Some c) (inl same) =
    let pair : (s, d) ≡ (t, c) = same_Some _ _ (ap chosen_in same) in
    (ap (λ (p : ℕ × Definition). p.0) pair, ap (λ (p : ℕ × Definition). Some p.1) (sym pair))
reported_of_is s t d (Some c) (inr is_in) = absurd is_in

in_either : {A : Type 0} (x : A) (xs ys : List A) → IsIn x (xs ++ ys) → IsIn x xs ⊎ IsIn x ys
in_either x [] ys is_in = inr is_in
in_either x (y ∷ xs) ys (inl same) = inl (inl same)
in_either x (y ∷ xs) ys (inr is_in) = elim (in_either x xs ys is_in) [ inl first ↦ inl (inr first) | inr later ↦ inr later ]

reported_at : (history : List Definition) (s t : ℕ) (d : Definition) → IsIn (Chosen s d) (reports history t) → definition_at history s ≡ Some d
unfolding reports
reported_at history s t d is_in =
    let is = reported_of_is s t d (definition_at history t) is_in in
    subst (λ k. definition_at history k ≡ Some d) (sym is.0) is.1

reported_is : (history : List Definition) (s t count : ℕ) (d : Definition) → IsIn (Chosen s d) (reports_from history t count) → definition_at history s ≡ Some d
unfolding reports_from
reported_is history s t zero d is_in = absurd is_in
reported_is history s t (suc count) d is_in = elim (in_either (Chosen s d) (reports history t) (reports_from history (suc t) count) is_in) [
  | inl first ↦ reported_at history s t d first
  | inr later ↦ reported_is history s (suc t) count d later
]

-- ---- the next definition

at_next : (xs ys : List Definition) (d : Definition) → slice_get (xs ++ ys) (length xs) ≡ Some d → (rest : List Definition) × (ys ≡ d ∷ rest)
at_next [] [] d at = absurd (none-some d at)
at_next [] (y ∷ ys) d at = (ys, ap (λ z. z ∷ ys) (same_Some y d at))
at_next (x ∷ xs) ys d at = at_next xs ys d at

-- where a history has this under the sequence after a beginning of it
next_begins : (history list : List Definition) (d : Definition) → IsBeginning list history → definition_at history (suc (length list)) ≡ Some d → IsBeginning (list ++ d ∷ []) history
unfolding definition_at
next_begins history list d begins at =
    let next = at_next list begins.0 d (subst (λ ds. slice_get ds (length list) ≡ Some d) (sym begins.1) at) in
    (next.0, append_assoc list (d ∷ []) next.0 ∙ ap (λ ds. list ++ ds) (sym next.1) ∙ begins.1)

learned_own : (list : List Definition) (s : ℕ) (d : Definition) → s ≡ next_of list → with_chosen list s d ≡ list ++ d ∷ []
learned_own list s d same = rw (eq-eqb s (next_of list) same) refl

learned_other : (list : List Definition) (s : ℕ) (d : Definition) → (s ≡ next_of list → ⊥) → with_chosen list s d ≡ list
learned_other list s d differs = rw (ne_eqb s (next_of list) differs) refl

learned_begins : (history list : List Definition) (s : ℕ) (d : Definition) → IsBeginning list history → definition_at history s ≡ Some d → IsBeginning (with_chosen list s d) history
learned_begins history list s d begins at = elim (cases_eq s (next_of list)) [
  | inl same ↦
      let next : s ≡ suc (length list) = omega (arith, same) in
      subst (λ xs. IsBeginning xs history) (sym (learned_own list s d same)) (next_begins history list d begins (subst (λ k. definition_at history k ≡ Some d) next at))
  | inr differs ↦ subst (λ xs. IsBeginning xs history) (sym (learned_other list s d differs)) begins
]

received_begins : (history list source : List Definition) (asked : ℕ) (received : Message Definition) → IsBeginning list history → IsBeginning source history → IsIn received (reports_from source asked most_reports) →
    IsBeginning (after_learning list received) history
received_begins history list source asked (Chosen s d) begins from is_in =
    learned_begins history list s d begins (definition_longer source history s d from (reported_is source s asked most_reports d is_in))
received_begins history list source asked (Prepare s b) begins from is_in = begins
received_begins history list source asked (Promise i s b votes) begins from is_in = begins
received_begins history list source asked (Accept s b d) begins from is_in = begins
received_begins history list source asked (Accepted i s b) begins from is_in = begins
received_begins history list source asked (Nack i s b promise) begins from is_in = begins
received_begins history list source asked (Ask s) begins from is_in = begins

-- ---- each list

module _ {T : Type 0} (n : ℕ) (executions : ℕ → Execution T) (one : HasOneHistory n executions) where
  served_begins : (list : List Definition) → IsListOfFarm n executions list → IsBeginning list one.history
  served_begins list (OfNode other node held same) = subst (λ xs. IsBeginning xs one.history) (sym same) (one.each node held)
  served_begins list (Empty other none) = subst (λ xs. IsBeginning xs one.history) (sym none) (one.history, refl)
  served_begins list (Learned before source other asked received was from is_in next) =
      subst (λ xs. IsBeginning xs one.history) (sym next)
      (received_begins one.history before source asked received (served_begins before was) (served_begins source from) is_in)

pub one_served : {T : Type 0} (tapes : Tape T) → OneHistory tapes → OneServed tapes
one_served tapes theorem = λ n executions items farm.
    let one = theorem n executions items farm in
    record { history = one.history; each = λ list served. served_begins n executions one list served }

module _ {T : Type 0} (tapes : Tape T) (theorem : OneServed tapes) where
  pub served_agree : ServedAgree tapes
  served_agree = λ n executions items farm list other served also s c d at there.
      let so = theorem n executions items farm in
      one_definition so.history list other (so.each list served) (so.each other also) s c d at there

  pub served_answer : EachQueryHasOneAnswer → ServedAnswer tapes
  served_answer answers = λ n executions items farm list other served also s query answer another long longer is is_other.
      let so = theorem n executions items farm in
      one_answer so.history list other (so.each list served) (so.each other also) answers s query answer another is is_other

  pub served_map_answer : EachQueryHasOneAnswer → AskedMapsAreAnsweredAlike → ServedMapAnswer tapes
  served_map_answer answers elsewhere = λ n executions items farm list other served also s t m query answer another asks asks_too long longer is is_other.
      let so = theorem n executions items farm in
      one_map_answer so.history list other (so.each list served) (so.each other also) answers elsewhere s t m query answer another asks asks_too is is_other
