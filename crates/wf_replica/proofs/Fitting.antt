-- The answers of a sound source fit.
use Rattle.std.proofs.Common.{◌≡◌, ◌∙◌, ℕ, zero, suc, ◌+◌, ◌≤◌, List, [], ◌∷◌, ◌++◌, length, take, drop, inl, inr, refl, sym, ap, subst, arith, append-nil, length-append}
use Rattle.std.specs.Prelude.{min}
use Rattle.std.proofs.lemmas.List.{length-take}
use Rattle.wf_def.specs.Definition.{Definition}
use Rattle.wf_digest.specs.Digest.{digest_at}
use Rattle.wf_model.specs.Table.{most_reports}
use Rattle.wf_reader.specs.ReaderAnswer.{ReaderAnswer}
use Rattle.wf_reader.specs.declared.question.Question.{Question}
use Rattle.wf_replica.proofs.Digested.{digest_within}
use Rattle.wf_replica.specs.Fit.{FitsQuestion, IsQuestionOf}
use Rattle.wf_replica.specs.Theorems.{SoundAnswersFit}

take_nothing : (k : ℕ) → take {A = Definition} k [] ≡ []
take_nothing zero = refl
take_nothing (suc k) = refl

take_all : (n : ℕ) (xs : List Definition) → length xs ≤ n → take n xs ≡ xs
take_all n [] le = take_nothing n
take_all zero (x ∷ xs) le = absurd (omega (arith, le))
take_all (suc n) (x ∷ xs) le = ap (λ (l : List Definition). x ∷ l) (take_all n xs (omega (arith, le)))

drop_front : (xs ys : List Definition) → drop (length xs) (xs ++ ys) ≡ ys
drop_front [] ys = refl
drop_front (x ∷ xs) ys = drop_front xs ys

drop_beyond : (n : ℕ) (xs : List Definition) → length xs ≤ n → drop n xs ≡ []
drop_beyond zero [] le = refl
drop_beyond (suc n) [] le = refl
drop_beyond zero (x ∷ xs) le = absurd (omega (arith, le))
drop_beyond (suc n) (x ∷ xs) le = drop_beyond n xs (omega (arith, le))

fits_ahead : (list rest : List Definition) (q : Question) (a : ReaderAnswer) → IsQuestionOf list q → a.published ≡ length (list ++ rest) → a.digest ≡ digest_at (list ++ rest) (length (list ++ rest)) → a.definitions ≡ take most_reports (drop q.published (list ++ rest)) → FitsQuestion list q a
fits_ahead list rest q a asked published digest definitions =
    let next : a.definitions ≡ take most_reports rest = definitions ∙ ap (λ (n : ℕ). take most_reports (drop n (list ++ rest))) asked.published ∙ ap (take most_reports) (drop_front list rest) in
    let long : length a.definitions ≡ min most_reports (length rest) = ap length next ∙ length-take most_reports rest in
    let last : a.published ≡ length list + length rest = published ∙ length-append list rest in
    record {
      asked = asked;
      count = omega (arith, long, last);
      digest = λ within.
          let few : length rest ≤ most_reports = omega (arith, within, length-append list a.definitions, long, last) in
          let all : list ++ a.definitions ≡ list ++ rest = ap (λ (l : List Definition). list ++ l) (next ∙ take_all most_reports rest few) in
          digest ∙ ap (λ (n : ℕ). digest_at (list ++ rest) n) (sym published) ∙ ap (λ (l : List Definition). digest_at l a.published) (sym all);
    }

fits_behind : (source rest : List Definition) (q : Question) (a : ReaderAnswer) → IsQuestionOf (source ++ rest) q → a.published ≡ length source → a.digest ≡ digest_at source (length source) → a.definitions ≡ take most_reports (drop q.published source) → FitsQuestion (source ++ rest) q a
fits_behind source rest q a asked published digest definitions =
    let le : length source ≤ q.published = omega (arith, asked.published, length-append source rest) in
    let none : a.definitions ≡ [] = definitions ∙ ap (take most_reports) (drop_beyond q.published source le) in
    record {
      asked = asked;
      count = omega (arith, ap length none, published, length-append source rest);
      digest = λ within.
          let whole : (source ++ rest) ++ a.definitions ≡ source ++ rest = ap (λ (l : List Definition). (source ++ rest) ++ l) none ∙ append-nil (source ++ rest) in
          digest ∙ ap (λ (n : ℕ). digest_at source n) (sym published)
          ∙ sym (digest_within source rest a.published (omega (arith, published)))
          ∙ ap (λ (l : List Definition). digest_at l a.published) (sym whole);
    }

pub sound_answers_fit : SoundAnswersFit
sound_answers_fit = λ own list source q a goes_on asked answers. elim goes_on [
  | inl ahead ↦ fits_ahead list ahead.0 q a asked
      (answers.published ∙ ap length (sym ahead.1))
      (answers.digest ∙ ap (λ (h : List Definition). digest_at h (length h)) (sym ahead.1))
      (answers.definitions ∙ ap (λ (h : List Definition). take most_reports (drop q.published h)) (sym ahead.1))
  | inr behind ↦ subst (λ (l : List Definition). FitsQuestion l q a) behind.1
      (fits_behind source behind.0 q a (subst (λ (l : List Definition). IsQuestionOf l q) (sym behind.1) asked) answers.published answers.digest answers.definitions)
]
