-- The theorems about farms of processes.
use Rattle.std.specs.Prelude.{◌≡◌, ℕ, ◌<◌, ◌≤◌, List, [], ◌∷◌, ◌++◌, length, map, slice_get, Some, None}
use Rattle.wf_codec.specs.Message as message
use Rattle.wf_codec.specs.declared.message.Message.{Message}
use Rattle.wf_def.specs.Definition.{Definition}
use Rattle.wf_def.specs.Equality.{definition_eq}
use Rattle.wf_safety.specs.Theorems.{IsBeginning}
use Rattle.wf_model.specs.DurableState.{definition_at}
use Rattle.wf_model.specs.World as world
use Rattle.wf_node.specs.Node.{Node}
use Rattle.wf_delivery.specs.Delivery.{AnyPart, ShowsNode}
use Rattle.wf_tape.specs.declared.tape.Tape.{Ghosts as Tape}
use Rattle.wf_trace.specs.Theorems.{AreNodesReachable}
use Rattle.wf_wms.specs.Answer.{AnswerValue, AsksForMap, IsAnswerOf}
use Rattle.wf_execution.specs.Run.{Run, last}
use Rattle.wf_execution.specs.Execution.{Execution, IsExecution, values, Item, IsFarm}

-- one of the n processes held this node at some moment, in whichever of its runs
pub record IsHeld {T : Type 0} (n : ℕ) (executions : ℕ → Execution T) (node : Node T) : Type 0 where
  pub process : ℕ
  pub is_member : process < n
  pub moment : ℕ
  pub at : slice_get (values (executions process)) moment ≡ Some node

-- ---- the lists of published maps

-- What a process published at one moment is a beginning of what it has published at each later one,
-- in whichever run.
abbrev pub ListsGrow : {T : Type 0} → Tape T → Type 0
ListsGrow {T} tapes = (n i : ℕ) (execution : Execution T) (moment later : ℕ) (node next : Node T) → IsExecution tapes n i execution → moment ≤ later →
    slice_get (values execution) moment ≡ Some node → slice_get (values execution) later ≡ Some next → IsBeginning node.parts.history next.parts.history

-- There is one history, and what any process published at any moment is a beginning of it.
pub record HasOneHistory {T : Type 0} (n : ℕ) (executions : ℕ → Execution T) : Type 0 where
  pub history : List Definition
  pub each : (node : Node T) → IsHeld n executions node → IsBeginning node.parts.history history

abbrev pub OneHistory : {T : Type 0} → Tape T → Type 0
OneHistory {T} tapes = (n : ℕ) (executions : ℕ → Execution T) (items : List Item) → IsFarm tapes n executions items → HasOneHistory n executions

-- No two processes, at any two moments, have published different definitions under one sequence.
abbrev pub OneDefinition : {T : Type 0} → Tape T → Type 0
OneDefinition {T} tapes = (n : ℕ) (executions : ℕ → Execution T) (items : List Item) → IsFarm tapes n executions items →
    (node other : Node T) → IsHeld n executions node → IsHeld n executions other → (s : ℕ) (c d : Definition) →
    definition_at node.parts.history s ≡ Some c → definition_at other.parts.history s ≡ Some d → c ≡ d

-- ---- answers

-- Two processes that have published equally many maps have one answer to a query of the web map
-- service, at whatever moments: the same kind, media type and bytes.
abbrev pub OneAnswer : {T : Type 0} → Tape T → Type 0
OneAnswer {T} tapes = (n : ℕ) (executions : ℕ → Execution T) (items : List Item) → IsFarm tapes n executions items →
    (node other : Node T) → IsHeld n executions node → IsHeld n executions other → (s : ℕ) (query : List ℕ) (answer another : AnswerValue) →
    length node.parts.history ≡ s → length other.parts.history ≡ s →
    IsAnswerOf s node.parts.history query answer → IsAnswerOf s other.parts.history query another → another ≡ answer

-- Two processes that a query asks for the same map have one answer to it, however many maps either
-- has published.
abbrev pub OneMapAnswer : {T : Type 0} → Tape T → Type 0
OneMapAnswer {T} tapes = (n : ℕ) (executions : ℕ → Execution T) (items : List Item) → IsFarm tapes n executions items →
    (node other : Node T) → IsHeld n executions node → IsHeld n executions other → (s t m : ℕ) (query : List ℕ) (answer another : AnswerValue) →
    AsksForMap m s query → AsksForMap m t query → length node.parts.history ≡ s → length other.parts.history ≡ t →
    IsAnswerOf s node.parts.history query answer → IsAnswerOf t other.parts.history query another → another ≡ answer

-- ---- one run of the model

-- all messages that were returned, in their order
unfoldable pub outputs_in : List Item → List Message
outputs_in [] = []
outputs_in (item ∷ items) = item.outputs ++ outputs_in items

-- Some events of the model lead from its start to what the processes are now, and they send exactly
-- the messages that were returned, in order. A process that runs is its node; one that doesn't is
-- stopped.
pub record IsOneRun {T : Type 0} (n : ℕ) (executions : ℕ → Execution T) (items : List Item) : Type 0 where
  pub nodes : ℕ → world.Node Definition
  pub reached : AreNodesReachable definition_eq n nodes (map message.view (outputs_in items))
  pub running : (i : ℕ) (run : Run T) → i < n → (executions i).now ≡ Some run → ShowsNode (AnyPart i) (last run) (nodes i)
  pub stopped : (i : ℕ) → i < n → (executions i).now ≡ None → (nodes i).volatile ≡ None

-- So each theorem of `wf_safety` holds of what the processes have published, and of the messages.
abbrev pub FarmIsOneRun : {T : Type 0} → Tape T → Type 0
FarmIsOneRun {T} tapes = (n : ℕ) (executions : ℕ → Execution T) (items : List Item) → IsFarm tapes n executions items → IsOneRun n executions items
