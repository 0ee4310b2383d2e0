-- What a replica heard by the answers that it was given.
use Rattle.std.specs.Prelude.{◌≡◌, ℕ, ◌<◌, ◌≤◌, List, [], ◌∷◌, ◌++◌, length, take}
use Rattle.wf_def.specs.Definition.{Definition}
use Rattle.wf_learner.specs.History.{next_of}
use Rattle.wf_model.specs.Message.{Message}
use Rattle.wf_reader.specs.ReaderAnswer.{ReaderAnswer}
use Rattle.wf_reader.specs.declared.question.Question.{Question}
use Rattle.wf_replica.specs.Fit.{FitsQuestion}
use Rattle.wf_replica.specs.LearnedList.{learned, numbered}

-- What a replica with this list heard by an answer: its first definitions, as chosen for the next
-- sequences, if the answer fits the question; else nothing.
pub record IsAnswerTaken (list : List Definition) (q : Question) (a : ReaderAnswer) (part : List (Message Definition)) : Type 0 where
  pub count : ℕ
  pub within : count ≤ length a.definitions
  pub fits : 0 < count → FitsQuestion list q a
  pub is_part : part ≡ numbered (next_of list) (take count a.definitions)

-- so by some answers, one after the other, from this list on; and nothing else
unfoldable pub IsTakenFrom : List Definition → List (ReaderAnswer × Question) → List (Message Definition) → Type 0
IsTakenFrom list [] received = received ≡ []
IsTakenFrom list (answer ∷ answers) received =
    (part : List (Message Definition)) × (rest : List (Message Definition)) × (received ≡ part ++ rest) × IsAnswerTaken list answer.1 answer.0 part × IsTakenFrom (learned list part) answers rest

-- What a replica heard is what it read of its tape, and then what it took of these answers.
pub record CameByAnswers (read : List (Message Definition)) (answers : List (ReaderAnswer × Question)) (received : List (Message Definition)) : Type 0 where
  pub rest : List (Message Definition)
  pub is_rest : received ≡ read ++ rest
  pub by_answers : IsTakenFrom (learned [] read) answers rest
