-- Which answers fit a replica's question, and what an answer leaves of its list.
use Rattle.std.specs.Prelude.{◌≡◌, ◌≢◌, ◌⊎◌, ⊤, ℕ, ◌-◌, ◌≤◌, List, ◌++◌, length, min, take, Result, Ok, Err}
use Rattle.wf_ballot.specs.Sequence.{last_sequence}
use Rattle.wf_def.specs.Definition.{Definition}
use Rattle.wf_digest.specs.Digest.{AreDigestsOf, digest_at}
use Rattle.wf_model.specs.Table.{most_reports}
use Rattle.wf_reader.specs.ReaderAnswer.{ReaderAnswer}
use Rattle.wf_reader.specs.declared.question.Question.{Question}
use Rattle.wf_replica.specs.declared.misfit.AnswerFault.{AnswerFault}
use Rattle.wf_replica.specs.declared.misfit.AnswerFault.TheVariants as faults
use Rattle.wf_replica.specs.declared.misfit.Misfit.{Misfit}
use Rattle.wf_replica.specs.declared.misfit.Misfit.TheVariants as misfits

-- the digests are those of a front of the list, or of the whole
abbrev pub AreDigestsOfFront : List Definition → List (List ℕ) → Type 0
AreDigestsOfFront list digests = AreDigestsOf (take (length digests - 1) list) digests

-- the question is the one of a replica with this list
pub record IsQuestionOf (list : List Definition) (q : Question) : Type 0 where
  pub published : q.published ≡ length list
  pub digest : q.digest ≡ digest_at list (length list)

-- how many definitions one who has published up to a last sequence sends of those after s
abbrev pub next_count : ℕ → ℕ → ℕ
next_count s last = min most_reports (last - s)

-- The answer fits the question of a replica with this list: it has as many definitions as there
-- have to be by its published sequence; and the list with these has its digest at that sequence,
-- unless that is further on.
pub record FitsQuestion (list : List Definition) (q : Question) (a : ReaderAnswer) : Type 0 where
  pub asked : IsQuestionOf list q
  pub count : length a.definitions ≡ next_count (length list) a.published
  pub digest : a.published ≤ length (list ++ a.definitions) → a.digest ≡ digest_at (list ++ a.definitions) a.published

-- The answerer is of another history: at its last sequence, which a replica with this list has
-- published too, its digest is another one.
pub record IsOtherHistory (list : List Definition) (a : ReaderAnswer) : Type 0 where
  pub both : a.published ≤ length list
  pub differ : a.digest ≢ digest_at list a.published

-- An allocation failed: the list is as it was, or goes on by some of the definitions of an answer
-- that fits, from the first on.
pub record IsLearnedInPart (list : List Definition) (q : Question) (a : ReaderAnswer) (new : List Definition) : Type 0 where
  pub fits : FitsQuestion list q a
  pub count : ℕ
  pub goes_on : new ≡ list ++ take count a.definitions

-- What an answer leaves of a list: one that fits is taken whole, up to the last sequence; any other
-- changes nothing.
abbrev pub AnswerLeaves : List Definition → Question → ReaderAnswer → Result (Unit {0}) AnswerFault → List Definition → Type 0
AnswerLeaves list q a (Ok done) new = FitsQuestion list q a × (new ≡ take last_sequence (list ++ a.definitions))
AnswerLeaves list q a (Err (faults.Misfit why)) new = (¬ (FitsQuestion list q a)) × (new ≡ list)
AnswerLeaves list q a (Err faults.Memory) new = (new ≡ list) ⊎ IsLearnedInPart list q a new

-- it isn't taken since the answerer is of another history
abbrev pub IsOfOtherHistory : Misfit → Type 0
IsOfOtherHistory misfits.Unasked = ⊥
IsOfOtherHistory misfits.Count = ⊥
IsOfOtherHistory misfits.Digest = ⊥
IsOfOtherHistory (misfits.OtherHistory s) = ⊤

abbrev pub IsFoundDifferent : Result (Unit {0}) AnswerFault → Type 0
IsFoundDifferent (Ok done) = ⊥
IsFoundDifferent (Err (faults.Misfit why)) = IsOfOtherHistory why
IsFoundDifferent (Err faults.Memory) = ⊥
