-- Processes that show their lives are a farm: what `wf_execution` has theorems about.
use Rattle.std.specs.Prelude.{◌≡◌, ℕ, ◌<◌, ◌==◌, ⊤, List, [], ◌∷◌, ◌++◌, map, Some, if◌then◌else◌}
use Rattle.wf_execution.specs.Execution.{Execution, Item, IsExecution, IsFarm, items_by, items_in, items_of}
use Rattle.wf_execution.specs.Run.{Act, Input, Run, IsRun, given_to, last}
use Rattle.wf_codec.specs.declared.message.Message.{Message}
use Rattle.wf_node.specs.Node.{Node}
use Rattle.wf_tape.specs.declared.tape.Tape.{Ghosts as Tape}
use Rattle.wf_actor.specs.Life.{AreOwnAmong, AreValuesOf, IsLife}
use Rattle.wf_wire.specs.Post.{AreAmong}
use Rattle.wf_actor.specs.declared.actor.Origin.{Origin}
use Rattle.wf_actor.specs.declared.actor.Origin.TheVariants.{Own, Peer}

-- an item of `wf_execution` with where its input came from: the process of that number gave its
-- node this input, which returned these messages
pub record Step : Type 0 where
  pub process : ℕ
  pub takes : Input
  pub origin : Origin
  pub outputs : List Message

abbrev pub item_of : Step → Item
item_of step = record { process = step.process; takes = step.takes; outputs = step.outputs }

abbrev pub items : List Step → List Item
items steps = map item_of steps

-- the steps of one process, in their order
unfoldable pub steps_of : ℕ → List Step → List Step
steps_of i [] = []
steps_of i (step ∷ steps) = if step.process == i then step ∷ steps_of i steps else steps_of i steps

-- the steps of a run
unfoldable pub steps_by : {T : Type 0} → ℕ → List (Act T) → List Origin → List Step
steps_by i [] origins = []
steps_by i (act ∷ acts) [] = []
steps_by i (act ∷ acts) (origin ∷ origins) = record { process = i; takes = act.input; origin = origin; outputs = act.outputs } ∷ steps_by i acts origins

-- ---- what is heard was sent

-- Each message that a step delivers as one of its own node is one of these, or earlier steps
-- returned it.
unfoldable pub AreOwn : List Message → List Step → Type 0
AreOwn emitted [] = ⊤
AreOwn emitted (step ∷ steps) = AreOwnAmong emitted step.origin (given_to step.takes) × AreOwn (emitted ++ step.outputs) steps

-- each message that comes from a peer is one of these
abbrev pub ArePeersAmong : List Message → Origin → List Message → Type 0
ArePeersAmong sent Own messages = ⊤
ArePeersAmong sent (Peer peer stream) messages = AreAmong messages sent

-- Each message that a step delivers from a peer is one of these, or earlier steps returned it, by
-- whichever process. That is what connections promise that carry only what was written to them.
unfoldable pub AreCarried : List Message → List Step → Type 0
AreCarried sent [] = ⊤
AreCarried sent (step ∷ steps) = ArePeersAmong sent step.origin (given_to step.takes) × AreCarried (sent ++ step.outputs) steps

-- each step is of one of the n processes
unfoldable pub AreMembers : ℕ → List Step → Type 0
AreMembers n [] = ⊤
AreMembers n (step ∷ steps) = (step.process < n) × AreMembers n steps

-- n processes of which each shows its runs, and hears only its own messages and those that
-- connections carry, in one order of time.
pub record AreProcesses {T : Type 0} (tapes : Tape T) (n : ℕ) (executions : ℕ → Execution T) (steps : List Step) : Type 0 where
  pub members : AreMembers n steps
  pub each : (i : ℕ) → i < n → IsExecution tapes n i (executions i)
  pub shown : (i : ℕ) → i < n → items_of i (items steps) ≡ items_in i (executions i).ended (executions i).now
  pub own : (i : ℕ) → i < n → AreOwn [] (steps_of i steps)
  pub carried : AreCarried [] steps

-- ---- the theorems

-- They are a farm of `wf_execution`.
abbrev pub ProcessesAreFarm : {T : Type 0} → Tape T → Type 0
ProcessesAreFarm {T} tapes = (n : ℕ) (executions : ℕ → Execution T) (steps : List Step) → AreProcesses tapes n executions steps → IsFarm tapes n executions (items steps)

-- One run's part of that: a run of `wf_execution` up to the node as it is, from the bytes that were
-- read of the tape from which it was opened, which are its content if it is durable. Its items are
-- these steps, which hear only their own messages.
pub record IsRunPart {T : Type 0} (tapes : Tape T) (read_from : List (T × ℕ)) (stood : List (Node T × ℕ)) (node : Node T) : Type 0 where
  pub run : Run T
  pub origins : List Origin
  pub tape : T
  pub only : read_from ≡ (tape, 0) ∷ []
  pub bytes : List ℕ
  pub same : tapes.durable → bytes ≡ tapes.content tape
  pub is_run : IsRun tapes node.n node.id bytes run
  pub values : AreValuesOf stood run node
  pub now : last run ≡ node
  pub shown : items (steps_by node.id run.acts origins) ≡ items_by node.id run.acts
  pub own : AreOwn [] (steps_by node.id run.acts origins)

-- What a process promises after each call is its part.
abbrev pub LifeIsPart : {T : Type 0} → Tape T → Type 0
LifeIsPart {T} tapes = (read_from : List (T × ℕ)) (stood : List (Node T × ℕ)) (given : List (Message × Origin)) (emitted : List Message) (node : Node T) →
    IsLife tapes read_from stood given emitted node → IsRunPart tapes read_from stood node

-- Where the tape is durable and was empty, that is the first run of a process of `wf_execution`.
abbrev pub PartIsFirst : {T : Type 0} → Tape T → Type 0
PartIsFirst {T} tapes = (read_from : List (T × ℕ)) (stood : List (Node T × ℕ)) (node : Node T) (part : IsRunPart tapes read_from stood node) → tapes.durable → tapes.content part.tape ≡ [] →
    IsExecution tapes node.n node.id (record { ended = []; now = Some part.run })

-- Runs one after the other hear only their own messages, if each of them does.
abbrev pub RunsAreOwn : Type 0
RunsAreOwn = (emitted : List Message) (steps more : List Step) → AreOwn emitted steps → AreOwn [] more → AreOwn emitted (steps ++ more)
