-- What a replica has heard and learned.
use Rattle.std.specs.Prelude.{◌≡◌, List}
use Rattle.wf_def.specs.Definition.{Definition}
use Rattle.wf_safety.specs.Theorems.{IsBeginning}
use Rattle.wf_model.specs.Message.{Message}
use Rattle.wf_tape.specs.declared.tape.Tape.{Ghosts as Tape}
use Rattle.wf_reader.specs.ReaderAnswer.{ReaderAnswer}
use Rattle.wf_reader.specs.declared.question.Question.{Question}
use Rattle.wf_replica.specs.LearnedList.{messages_of}
use Rattle.wf_replica.specs.declared.follower.Follower.{Follower}

-- its published maps
abbrev pub list_of : {T : Type 0} {tapes : Tape T} → Follower T tapes → List Definition
list_of follower = follower.maps.shelf.definitions

-- the messages that it heard, one after the other
abbrev pub received_by : {T : Type 0} {tapes : Tape T} → Follower T tapes → List (Message Definition)
received_by follower = messages_of follower.maps.received.items

-- those that were read of its tape when it was opened
abbrev pub read_by : {T : Type 0} {tapes : Tape T} → Follower T tapes → List (Message Definition)
read_by follower = messages_of follower.read.items

-- the answers that it was given, each with its question
abbrev pub answers_of : {T : Type 0} {tapes : Tape T} → Follower T tapes → List (ReaderAnswer × Question)
answers_of follower = follower.answers.items

-- its list went on, or stayed
pub record Grows {T : Type 0} {tapes : Tape T} (old new : Follower T tapes) : Type 0 where
  pub begins : IsBeginning (list_of old) (list_of new)

-- it learned nothing
pub record HasLearnedNothing {T : Type 0} {tapes : Tape T} (old new : Follower T tapes) : Type 0 where
  pub list : list_of new ≡ list_of old
  pub received : received_by new ≡ received_by old
  pub answers : answers_of new ≡ answers_of old
  pub read : read_by new ≡ read_by old
