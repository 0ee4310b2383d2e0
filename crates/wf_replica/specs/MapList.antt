-- The maps that a replica has learned, and what it heard.
use Rattle.std.specs.Prelude.{◌≡◌, ℕ, ◌<◌, ◌≤◌, List, ◌++◌, length, take}
use Rattle.wf_def.specs.Definition.{Definition}
use Rattle.wf_learner.specs.History.{next_of}
use Rattle.wf_model.specs.Message.{Message}
use Rattle.wf_reader.specs.ReaderAnswer.{ReaderAnswer}
use Rattle.wf_reader.specs.declared.question.Question.{Question}
use Rattle.wf_replica.specs.Fit.{FitsQuestion}
use Rattle.wf_replica.specs.LearnedList.{messages_of, numbered}
use Rattle.wf_replica.specs.declared.maps.MapList.{MapList}

-- its maps
abbrev pub maps_of : MapList → List Definition
maps_of maps = maps.shelf.definitions

-- the messages that it heard, one after the other
abbrev pub heard_by : MapList → List (Message Definition)
heard_by maps = messages_of maps.received.items

-- it heard and learned the first k of these definitions, as chosen for the next sequences
pub record Learns (k : ℕ) (old new : MapList) (definitions : List Definition) : Type 0 where
  pub within : k ≤ length definitions
  pub received : heard_by new ≡ heard_by old ++ numbered (next_of (maps_of old)) (take k definitions)
  pub list : maps_of new ≡ maps_of old ++ take k definitions

-- it learned the first definitions of an answer, if that fits its question; else nothing
pub record LearnsFitting (q : Question) (a : ReaderAnswer) (old new : MapList) : Type 0 where
  pub count : ℕ
  pub fits : 0 < count → FitsQuestion (maps_of old) q a
  pub learns : Learns count old new a.definitions

-- All that it heard was read, as the maps that it has.
pub record IsReadFromTape (read : List (Message Definition)) (maps : MapList) : Type 0 where
  pub same : heard_by maps ≡ read
  pub are_maps : read ≡ numbered 1 (maps_of maps)
