-- A process: its runs, one after the other on one tape. A farm: several such processes in one order
-- of time.
use Rattle.std.specs.Prelude.{◌≡◌, ℕ, ◌<◌, ◌==◌, ⊤, List, [], ◌∷◌, ◌++◌, Option, Some, None, if◌then◌else◌}
use Rattle.wf_codec.specs.declared.message.Message.{Message}
use Rattle.wf_model.specs.Chosen.{IsIn}
use Rattle.wf_model.specs.declared.action.Action.TheVariants as action
use Rattle.wf_node.specs.Node.{Node}
use Rattle.wf_tape.specs.declared.tape.Tape.{Ghosts as Tape}
use Rattle.wf_execution.specs.Run.{Input, Act, Run, RunEnd, Between, Within, Failed, HasLeft, IsRun}

-- ---- one process

-- a run that has ended, and the bytes that the next one is opened from
pub record Ended (T : Type 0) : Type 0 where
  pub run : Run T
  pub end : RunEnd
  pub left : List ℕ

-- the runs that have ended, the first one first, and the one that goes on, if one does
pub record Execution (T : Type 0) : Type 0 where
  pub ended : List (Ended T)
  pub now : Option (Run T)

module _ {T : Type 0} (tapes : Tape T) (n i : ℕ) where
  pub record IsRunEnded (bytes : List ℕ) (ended : Ended T) : Type 0 where
    pub run : IsRun tapes n i bytes ended.run
    pub left : HasLeft ended.run ended.end ended.left

  -- the first run is opened from these bytes, each later one from what the one before it left
  abbrev pub AreRuns : List ℕ → List (Ended T) → Option (Run T) → Type 0
  AreRuns bytes [] None = ⊤
  AreRuns bytes [] (Some run) = IsRun tapes n i bytes run
  AreRuns bytes (ended ∷ later) now = IsRunEnded bytes ended × AreRuns ended.left later now

  -- The process is node i of n, on a tape that was empty at first.
  abbrev pub IsExecution : Execution T → Type 0
  IsExecution execution = AreRuns [] execution.ended execution.now

-- the values that a node had, from that one on
unfoldable pub values_after : {T : Type 0} → List (Act T) → List (Node T)
values_after [] = []
values_after (act ∷ acts) = act.after ∷ values_after acts

abbrev pub values_in : {T : Type 0} → Run T → List (Node T)
values_in run = run.first ∷ values_after run.acts

unfoldable pub values_of : {T : Type 0} → List (Ended T) → Option (Run T) → List (Node T)
values_of [] None = []
values_of [] (Some run) = values_in run
values_of (ended ∷ later) now = values_in ended.run ++ values_of later now

-- all node values that the process ever held, in their order
abbrev pub values : {T : Type 0} → Execution T → List (Node T)
values execution = values_of execution.ended execution.now

-- ---- all of them

-- The process of that number gave its node this input, which returned these messages; or it ended
-- within this step.
pub record Item : Type 0 where
  pub process : ℕ
  pub takes : Input
  pub outputs : List Message

-- the items of one process, in their order
unfoldable pub items_of : ℕ → List Item → List Item
items_of i [] = []
items_of i (item ∷ items) = if item.process == i then item ∷ items_of i items else items_of i items

-- the items of a process's runs
unfoldable pub items_by : {T : Type 0} → ℕ → List (Act T) → List Item
items_by i [] = []
items_by i (act ∷ acts) = record { process = i; takes = act.input; outputs = act.outputs } ∷ items_by i acts

abbrev pub items_at : ℕ → RunEnd → List Item
items_at i Between = []
items_at i (Within input) = record { process = i; takes = input; outputs = [] } ∷ []
items_at i (Failed input) = []

unfoldable pub items_in : {T : Type 0} → ℕ → List (Ended T) → Option (Run T) → List Item
items_in i [] None = []
items_in i [] (Some run) = items_by i run.acts
items_in i (ended ∷ later) now = items_by i ended.run.acts ++ (items_at i ended.end ++ items_in i later now)

-- a message that is delivered is one of these
abbrev pub IsOneOf : List Message → Input → Type 0
IsOneOf sent (action.Propose d) = ⊤
IsOneOf sent action.Retry = ⊤
IsOneOf sent action.CatchUp = ⊤
IsOneOf sent (action.Deliver message) = IsIn message sent

-- Each item is of one of the n processes, and a message that it delivers is one of these or of
-- those that earlier items returned.
abbrev pub AreInTurn : ℕ → List Message → List Item → Type 0
AreInTurn n sent [] = ⊤
AreInTurn n sent (item ∷ items) = (item.process < n) × IsOneOf sent item.takes × AreInTurn n (sent ++ item.outputs) items

-- n processes, which nothing but messages connects. There is one order of time of their steps, in
-- which each message that is delivered was returned earlier, by any of them.
pub record IsFarm {T : Type 0} (tapes : Tape T) (n : ℕ) (executions : ℕ → Execution T) (items : List Item) : Type 0 where
  pub each : (i : ℕ) → i < n → IsExecution tapes n i (executions i)
  pub own : (i : ℕ) → i < n → items_of i items ≡ items_in i (executions i).ended (executions i).now
  pub in_turn : AreInTurn n [] items
