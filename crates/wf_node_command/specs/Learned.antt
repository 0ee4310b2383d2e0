-- A process whose folder joins in the place of a lost one.
use Rattle.std.specs.Prelude.{◌≡◌, ℕ, List, [], ◌∷◌}
use Rattle.wf_loop.specs.Process.{Actor, Process}
use Rattle.wf_loop.specs.Continuation.{besides_chosen, besides_questions}
use Rattle.wf_loop.specs.EventLoop.{IsJoiner, process_of}
use Rattle.wf_loop.specs.declared.event_loop.EventLoop.{EventLoop}
use Rattle.wf_sockets.specs.declared.connection.Connection.{Ghosts as Connection}
use Rattle.wf_tape.specs.declared.tape.Tape.{Ghosts as Tape}
use Rattle.wf_wire.specs.Post.{logged}

-- In this run the node was given no message but those that say what is published, and returned none
-- but those that ask for that.
pub record IsLearning {T : Type 0} (tapes : Tape T) (run : Actor T tapes) : Type 0 where
  pub given : besides_chosen run.given.items ≡ []
  pub returned : besides_questions (logged run.emitted.items) ≡ []

-- so it is in each of these
unfoldable pub HaveOnlyLearned : {T : Type 0} (tapes : Tape T) → List (Actor T tapes × ℕ) → Type 0
HaveOnlyLearned tapes [] = Unit {0}
HaveOnlyLearned tapes (run ∷ runs) = IsLearning tapes run.0 × HaveOnlyLearned tapes runs

-- So it is in the run that it is in, and in those that have ended: it never voted, promised
-- nothing, and proposed nothing.
pub record HasOnlyLearned {T : Type 0} (tapes : Tape T) (process : Process T tapes) : Type 0 where
  pub now : IsLearning tapes process.actor
  pub ended : HaveOnlyLearned tapes process.ended.items

-- the folder of an event loop's process joins, and the process has only learned
abbrev pub IsLearner : {T N C L : Type 0} (tapes : Tape T) {connections : Connection C} → EventLoop T N C L tapes connections → Type 0
IsLearner tapes event_loop = IsJoiner event_loop × HasOnlyLearned tapes (process_of event_loop)
