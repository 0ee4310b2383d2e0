-- What a replica heard was told by lists of the farm, if its answers were.
use Rattle.std.proofs.Common.{◌≡◌, ◌⊎◌, ◌∙◌, ℕ, ◌+◌, zero, suc, List, [], ◌∷◌, ◌++◌, take, slice_get, Some, refl, sym, ap, subst, arith, inl, inr}
use Rattle.std.proofs.Math.Logic.{∥∥₁_elim, ∥∥₁_map}
use Rattle.std.proofs.Props.{props}
use Rattle.wf_execution.specs.Execution.{Execution}
use Rattle.wf_execution.specs.Replica.{ServedAgree}
use Rattle.wf_def.specs.Definition.{Definition}
use Rattle.wf_learner.specs.History.{next_of}
use Rattle.wf_model.specs.Chosen.{IsIn}
use Rattle.wf_model.specs.Message.{Chosen, Message}
use Rattle.wf_model.specs.Table.{most_reports, reports_from}
use Rattle.wf_reader.specs.ReaderAnswer.{ReaderAnswer}
use Rattle.wf_reader.specs.declared.question.Question.{Question}
use Rattle.wf_replica.proofs.Reported.{answers_report, first_reported, learned_agree}
use Rattle.wf_replica.specs.Heard.{CameByAnswers, IsTakenFrom, IsAnswerTaken}
use Rattle.wf_replica.specs.LearnedList.{learned, numbered}
use Rattle.wf_tape.specs.declared.tape.Tape.{Ghosts as Tape}
use Rattle.wf_replica.specs.Theorems.{AnsweredAgree, AreAnsweredByFarm, AreReported, HeardAreReported, IsAnsweredByFarm, IsToldByFarm, ReadAreReported}

in_append : (m : Message Definition) (first second : List (Message Definition)) → IsIn m (first ++ second) → IsIn m first ⊎ IsIn m second
in_append m [] second is_in = inr is_in
in_append m (x ∷ first) second (inl same) = inl (inl same)
in_append m (x ∷ first) second (inr is_in) = elim (in_append m first second is_in) [ inl early ↦ inl (inr early) | inr late ↦ inr late ]

in_front : (k s : ℕ) (definitions : List Definition) (m : Message Definition) → IsIn m (numbered s (take k definitions)) → IsIn m (numbered s definitions)
unfolding numbered
in_front zero s definitions m is_in = absurd is_in
in_front (suc k) s [] m is_in = absurd is_in
in_front (suc k) s (d ∷ definitions) m (inl same) = inl same
in_front (suc k) s (d ∷ definitions) m (inr is_in) = inr (in_front k (suc s) definitions m is_in)

numbered_at : (s : ℕ) (definitions : List Definition) (m : Message Definition) → IsIn m (numbered s definitions) → (i : ℕ) × (d : Definition) × (slice_get definitions i ≡ Some d) × (m ≡ Chosen (s + i) d)
unfolding numbered
numbered_at s [] m is_in = absurd is_in
numbered_at s (d ∷ definitions) m (inl same) =
    let here : s ≡ s + 0 = omega arith in
    (0, d, refl, same ∙ ap (λ (n : ℕ). Chosen n d) here)
numbered_at s (d ∷ definitions) m (inr is_in) =
    let later = numbered_at (suc s) definitions m is_in in
    let place : suc s + later.0 ≡ s + suc later.0 = omega arith in
    (suc later.0, later.1, later.2, later.3 ∙ ap (λ (n : ℕ). Chosen n later.1) place)

module _ {T : Type 0} (n : ℕ) (executions : ℕ → Execution T) where
  -- what was taken of an answer
  part_told : (count : ℕ) (list : List Definition) (q : Question) (a : ReaderAnswer) (part : List (Message Definition)) (taken : IsAnswerTaken list q a part) → taken.count ≡ count → IsAnsweredByFarm n executions (a, q) → (m : Message Definition) → IsIn m part → IsToldByFarm n executions m
  unfolding numbered
  part_told zero list q a part taken none answered m is_in =
      let empty : part ≡ [] = taken.is_part ∙ ap (λ (k : ℕ). numbered (next_of list) (take k a.definitions)) none in
      absurd (subst (IsIn m) empty is_in)
  part_told (suc count) list q a part taken some answered m is_in =
      let fits = taken.fits (omega (arith, some)) in
      let next : next_of list ≡ suc q.published = omega (arith, fits.asked.published) in
      let there : IsIn m (numbered (next_of list) a.definitions) = in_front taken.count (next_of list) a.definitions m (subst (IsIn m) taken.is_part is_in) in
      let is : numbered (next_of list) a.definitions ≡ reports_from answered.source (suc q.published) most_reports =
      ap (λ (s : ℕ). numbered s a.definitions) next ∙ ap (numbered (suc q.published)) answered.definitions ∙ answers_report answered.source q.published in
      record { source = answered.source; served = answered.served; asked = suc q.published; reports = subst (IsIn m) is there }

  from_told : (list : List Definition) (answers : List (ReaderAnswer × Question)) (received : List (Message Definition)) → IsTakenFrom list answers received → AreAnsweredByFarm n executions answers → AreReported n executions received
  unfolding IsTakenFrom
  from_told list [] received none answered = λ m is_in. absurd (subst (IsIn m) none is_in)
  from_told list (answer ∷ answers) received heard answered = λ m is_in.
      elim (in_append m heard.0 heard.1 (subst (IsIn m) heard.2 is_in)) [
        | inl first ↦ part_told heard.3.count list answer.1 answer.0 heard.0 heard.3 refl (answered answer (inl refl)) m first
        | inr later ↦ from_told (learned list heard.0) answers heard.1 heard.4 (λ other there. answered other (inr there)) m later
      ]

all_told : {T : Type 0} (n : ℕ) (executions : ℕ → Execution T) (read received : List (Message Definition)) (answers : List (ReaderAnswer × Question)) → CameByAnswers read answers received →
    AreReported n executions read → AreAnsweredByFarm n executions answers → AreReported n executions received
all_told n executions read received answers heard told answered = λ m is_in.
    elim (in_append m read heard.rest (subst (IsIn m) heard.is_rest is_in)) [
      | inl first ↦ told m first
      | inr later ↦ from_told n executions (learned [] read) answers heard.rest heard.by_answers answered m later
    ]

pub heard_are_reported : {T : Type 0} → HeardAreReported T
heard_are_reported {T} = λ n executions read received answers heard told answered. ∥∥₁_map heard (λ is. all_told n executions read received answers is told answered)

pub answered_agree : {T : Type 0} (tapes : Tape T) → ServedAgree tapes → AnsweredAgree tapes
answered_agree tapes agree = λ n executions items farm read received answers heard told answered read_by_other other other_answers also other_told other_answered k l s c d at there.
    let set : IsProp (c ≡ d) = hlevel props in
    ∥∥₁_elim (heard_are_reported n executions read received answers heard told answered) set (λ reports.
    ∥∥₁_elim (heard_are_reported n executions read_by_other other other_answers also other_told other_answered) set (λ other_reports.
    learned_agree tapes agree n executions items farm received other reports other_reports k l s c d at there))

pub read_are_reported : {T : Type 0} → ReadAreReported T
read_are_reported {T} = λ n executions list served m is_in.
    let at = numbered_at 1 list m is_in in
    let place : 1 + at.0 ≡ suc at.0 = omega arith in
    record {
      source = list;
      served = served;
      asked = suc at.0;
      reports = subst (λ (c : Message Definition). IsIn c (reports_from list (suc at.0) most_reports)) (sym (at.3 ∙ ap (λ (s : ℕ). Chosen s at.1) place)) (first_reported list at.0 at.1 at.2);
    }
