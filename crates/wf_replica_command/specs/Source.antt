-- What came of a source's connection.
use Rattle.std.specs.Prelude.{◌≡◌, ℕ, List, [], ◌∷◌, ◌++◌, Option, Some, None}
use Rattle.wf_reader.specs.declared.question.Question.{Question}
use Rattle.wf_reader.specs.declared.reply.Reply.{Reply}
use Rattle.wf_replica_command.specs.declared.asked.Asked.{Asked}
use Rattle.wf_replica_command.specs.declared.open_question.OpenQuestion.{OpenQuestion}
use Rattle.wf_replica_command.specs.declared.source.SourceTurn.{SourceTurn}
use Rattle.wf_replica_command.specs.declared.source.SourceTurn.TheVariants as turns
use Rattle.wf_sockets.specs.declared.connection.Connection.{Ghosts as Connection}

-- this question is open
abbrev pub IsOpenQuestion : Question → Option OpenQuestion → Type 0
IsOpenQuestion q open_question = (asked : OpenQuestion) × (open_question ≡ Some asked) × (asked.question ≡ q)

module _ {C : Type 0} {connections : Connection C} where
  -- a reply is logged with the source's number and its question, and nothing else is
  abbrev pub IsLogged : ℕ → SourceTurn C connections → List (Reply × Asked) → List (Reply × Asked) → Type 0
  IsLogged source (turns.Same connection) old new = new ≡ old
  IsLogged source (turns.Replied connection q reply) old new = new ≡ old ++ (reply, record { source = source; question = q }) ∷ []
  IsLogged source (turns.Ended why) old new = new ≡ old

  -- a reply is the one to the question that was open, and closes it; one that has no reply stays
  -- open
  abbrev pub IsOpenReply : SourceTurn C connections → Option OpenQuestion → Type 0
  IsOpenReply (turns.Same connection) open_question = Unit {0}
  IsOpenReply (turns.Replied connection q reply) open_question = IsOpenQuestion q open_question × (connection.question ≡ None)
  IsOpenReply (turns.Ended why) open_question = Unit {0}
