-- Theorems about what replicas learn.
use Rattle.std.specs.Prelude.{◌≡◌, ◌⊎◌, ℕ, suc, ◌≤◌, List, [], length, take, Some}
use Rattle.wf_execution.specs.Execution.{Execution, Item, IsFarm}
use Rattle.wf_execution.specs.Replica.{IsListOfFarm}
use Rattle.wf_def.specs.Definition.{Definition}
use Rattle.wf_safety.specs.Theorems.{IsBeginning}
use Rattle.wf_model.specs.Chosen.{IsIn}
use Rattle.wf_model.specs.Message.{Message}
use Rattle.wf_model.specs.DurableState.{definition_at}
use Rattle.wf_model.specs.Table.{most_reports, reports_from}
use Rattle.wf_reader.specs.Answerer.{IsAnswerTo, next_reported}
use Rattle.wf_reader.specs.ReaderAnswer.{ReaderAnswer}
use Rattle.wf_reader.specs.declared.answerer.Answerer.{Answerer}
use Rattle.wf_reader.specs.declared.question.Question.{Question}
use Rattle.wf_tape.specs.declared.tape.Tape.{Ghosts as Tape}
use Rattle.wf_wms.specs.Answer.{AnswerValue, IsAnswerOf}
use Rattle.wf_replica.specs.Fit.{FitsQuestion, IsQuestionOf}
use Rattle.wf_replica.specs.Heard.{CameByAnswers}
use Rattle.wf_replica.specs.LearnedList.{learned, numbered}

-- What an answer at a readers' port says is what a node answers when it is asked for the next
-- definition.
abbrev pub AnswersReport : Type 0
AnswersReport = (source : List Definition) (published : ℕ) → numbered (suc published) (next_reported source published) ≡ reports_from source (suc published) most_reports

-- What a source answers to a replica's question fits it, if one of the two lists is a beginning of
-- the other: nothing sound is rejected.
abbrev pub SoundAnswersFit : Type 0
SoundAnswersFit = (own : Answerer) (list source : List Definition) (q : Question) (a : ReaderAnswer) → IsBeginning list source ⊎ IsBeginning source list →
    IsQuestionOf list q → IsAnswerTo own source q a → FitsQuestion list q a

-- A replica never goes back: what it has learned at one moment is a beginning of what it has
-- learned at each later one.
abbrev pub NeverGoesBack : Type 0
NeverGoesBack = (received : List (Message Definition)) (k l : ℕ) → k ≤ l → IsBeginning (learned [] (take k received)) (learned [] (take l received))

-- the message is one by which a list of a node of the farm, or of a replica of it, answered a
-- question
pub record IsToldByFarm {T : Type 0} (n : ℕ) (executions : ℕ → Execution T) (m : Message Definition) : Type 0 where
  pub source : List Definition
  pub served : IsListOfFarm n executions source
  pub asked : ℕ
  pub reports : IsIn m (reports_from source asked most_reports)

abbrev pub AreReported : {T : Type 0} → ℕ → (ℕ → Execution T) → List (Message Definition) → Type 0
AreReported n executions received = (m : Message Definition) → IsIn m received → IsToldByFarm n executions m

-- the answer has what a list of a node of the farm, or of a replica of it, has next after the
-- question
pub record IsAnsweredByFarm {T : Type 0} (n : ℕ) (executions : ℕ → Execution T) (answer : ReaderAnswer × Question) : Type 0 where
  pub source : List Definition
  pub served : IsListOfFarm n executions source
  pub definitions : answer.0.definitions ≡ next_reported source answer.1.published

-- so each of these answers
abbrev pub AreAnsweredByFarm : {T : Type 0} → ℕ → (ℕ → Execution T) → List (ReaderAnswer × Question) → Type 0
AreAnsweredByFarm n executions answers = (answer : ReaderAnswer × Question) → IsIn answer answers → IsAnsweredByFarm n executions answer

-- Where a list of the farm gave each answer that a replica was given, and told what the replica
-- read of its tape, such lists told all that it heard.
abbrev pub HeardAreReported : Type 0 → Type 0
HeardAreReported T = (n : ℕ) (executions : ℕ → Execution T) (read received : List (Message Definition)) (answers : List (ReaderAnswer × Question)) → ∥ CameByAnswers read answers received ∥₁ →
    AreReported n executions read → AreAnsweredByFarm n executions answers → ∥ AreReported n executions received ∥₁

-- The maps of such a list, as they are read of a tape that has them, are told by it.
abbrev pub ReadAreReported : Type 0 → Type 0
ReadAreReported T = (n : ℕ) (executions : ℕ → Execution T) (list : List Definition) → IsListOfFarm n executions list → AreReported n executions (numbered 1 list)

-- So what a replica has learned at any moment is one of the lists of which `wf_execution` says that
-- all are beginnings of one history.
abbrev pub LearnedAreServed : Type 0 → Type 0
LearnedAreServed T = (n : ℕ) (executions : ℕ → Execution T) (received : List (Message Definition)) → AreReported n executions received → (k : ℕ) → IsListOfFarm n executions (learned [] (take k received))

-- A beginning of such a list is one, too: what is read of a tape that a replica wrote.
abbrev pub BeginningsAreServed : Type 0 → Type 0
BeginningsAreServed T = (n : ℕ) (executions : ℕ → Execution T) (list : List Definition) → IsListOfFarm n executions list → (k : ℕ) → IsListOfFarm n executions (take k list)

-- No two replicas, at any moments, have different definitions under one sequence.
abbrev pub LearnedAgree : {T : Type 0} → Tape T → Type 0
LearnedAgree {T} tapes = (n : ℕ) (executions : ℕ → Execution T) (items : List Item) → IsFarm tapes n executions items →
    (received other : List (Message Definition)) → AreReported n executions received → AreReported n executions other → (k l s : ℕ) (c d : Definition) →
    definition_at (learned [] (take k received)) s ≡ Some c → definition_at (learned [] (take l other)) s ≡ Some d → c ≡ d

-- So it is where lists of the farm gave all their answers, and told what they read of their tapes.
abbrev pub AnsweredAgree : {T : Type 0} → Tape T → Type 0
AnsweredAgree {T} tapes = (n : ℕ) (executions : ℕ → Execution T) (items : List Item) → IsFarm tapes n executions items →
    (read received : List (Message Definition)) (answers : List (ReaderAnswer × Question)) → ∥ CameByAnswers read answers received ∥₁ → AreReported n executions read → AreAnsweredByFarm n executions answers →
    (read_by_other other : List (Message Definition)) (other_answers : List (ReaderAnswer × Question)) → ∥ CameByAnswers read_by_other other_answers other ∥₁ → AreReported n executions read_by_other →
    AreAnsweredByFarm n executions other_answers → (k l s : ℕ) (c d : Definition) →
    definition_at (learned [] (take k received)) s ≡ Some c → definition_at (learned [] (take l other)) s ≡ Some d → c ≡ d

-- Where they have published equally many maps, they answer a query of the web map service alike.
abbrev pub LearnedAnswer : {T : Type 0} → Tape T → Type 0
LearnedAnswer {T} tapes = (n : ℕ) (executions : ℕ → Execution T) (items : List Item) → IsFarm tapes n executions items →
    (received other : List (Message Definition)) → AreReported n executions received → AreReported n executions other → (k l s : ℕ) (query : List ℕ) (answer another : AnswerValue) →
    length (learned [] (take k received)) ≡ s → length (learned [] (take l other)) ≡ s →
    IsAnswerOf s (learned [] (take k received)) query answer → IsAnswerOf s (learned [] (take l other)) query another → another ≡ answer
