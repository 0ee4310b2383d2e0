-- The theorems about timelines.
use Rattle.std.specs.Prelude.{◌≡◌, ℕ, ◌+◌, ◌<◌, ◌≤◌, ⊤, List, [], ◌∷◌, ◌++◌, length, map, take, slice_get, Some, true}
use Rattle.wf_execution.specs.Execution.{Execution, Item, IsFarm, values}
use Rattle.wf_execution.specs.Theorems.{outputs_in}
use Rattle.wf_codec.specs.Message as message
use Rattle.wf_def.specs.Definition.{Definition}
use Rattle.wf_def.specs.Equality.{definition_eq}
use Rattle.wf_delivery.specs.Delivery.{AnyPart, ShowsNode}
use Rattle.wf_model.specs.DurableState.{definition_at}
use Rattle.wf_node.specs.Node.{Node}
use Rattle.wf_safety.specs.Theorems.{IsBeginning}
use Rattle.wf_tape.specs.declared.tape.Tape.{Ghosts as Tape}
use Rattle.wf_trace.specs.Course.{Move, AreMovesFromStart, AreAllowed, course_nodes, outputs_through}
use Rattle.wf_wms.specs.Answer.{AnswerValue, AsksForMap, IsAnswerOf}
use Rattle.wf_replacement.specs.Timeline.{ProcessEvent, Loses, Rejoins, process_of, returned_through, IsPossible, IsTimeline, state_at, node_at}
use Rattle.wf_replacement.specs.Rejoining.{MayRejoin, EachMayRejoin}

-- ---- a course of the model

-- Some moves of the model, the first of which come before all of the timeline, are its events, one
-- for one: at each moment each process that runs is its node in them, and they send exactly the
-- messages that were returned. Where each process that is replaced may be, they are allowed.
pub record IsOneCourse {T : Type 0} (n : ℕ) (events : List (ProcessEvent T)) : Type 0 where
  pub first : ℕ
  pub moves : List (Move Definition)
  pub are_moves : AreMovesFromStart definition_eq n moves
  pub running : (k i : ℕ) (node : Node T) → i < n → node_at events k i ≡ Some node → ShowsNode (AnyPart i) node (course_nodes (take (first + k) moves) i)
  pub outputs : outputs_through moves ≡ map message.view (returned_through events)
  pub allowed : EachMayRejoin n events → AreAllowed n [] moves

-- So each theorem of `wf_trace` about courses holds of a timeline.
abbrev pub TimelineIsCourse : {T : Type 0} → Tape T → Type 0
TimelineIsCourse {T} tapes = (n : ℕ) (events : List (ProcessEvent T)) → IsTimeline tapes n events → IsOneCourse n events

-- ---- the lists of published maps

-- process i ran at that moment, and its node was this one
pub record IsHeldAt {T : Type 0} (n : ℕ) (events : List (ProcessEvent T)) (k i : ℕ) (node : Node T) : Type 0 where
  pub is_member : i < n
  pub at : node_at events k i ≡ Some node

-- there is one history, and what any process had published at any moment is a beginning of it
pub record HasOneHistory {T : Type 0} (n : ℕ) (events : List (ProcessEvent T)) : Type 0 where
  pub history : List Definition
  pub each : (k i : ℕ) (node : Node T) → IsHeldAt n events k i node → IsBeginning node.parts.history history

abbrev pub OneHistory : {T : Type 0} → Tape T → Type 0
OneHistory {T} tapes = (n : ℕ) (events : List (ProcessEvent T)) → IsTimeline tapes n events → EachMayRejoin n events → HasOneHistory n events

-- No two processes, at any two moments, have published different definitions under one sequence.
abbrev pub OneDefinition : {T : Type 0} → Tape T → Type 0
OneDefinition {T} tapes = (n : ℕ) (events : List (ProcessEvent T)) → IsTimeline tapes n events → EachMayRejoin n events →
    (k i l j : ℕ) (node other : Node T) → IsHeldAt n events k i node → IsHeldAt n events l j other → (s : ℕ) (c d : Definition) →
    definition_at node.parts.history s ≡ Some c → definition_at other.parts.history s ≡ Some d → c ≡ d

-- What a process had published at one moment is a beginning of what it has published at each later
-- one, in whichever run, and however often it was replaced between them.
abbrev pub ListsGrow : {T : Type 0} → Tape T → Type 0
ListsGrow {T} tapes = (n : ℕ) (events : List (ProcessEvent T)) → IsTimeline tapes n events → EachMayRejoin n events →
    (k l i : ℕ) (node next : Node T) → k ≤ l → IsHeldAt n events k i node → IsHeldAt n events l i next → IsBeginning node.parts.history next.parts.history

-- ---- answers

-- Two processes that have published equally many maps have one answer to a query of the web map
-- service, at whatever moments: the same kind, media type and bytes.
abbrev pub OneAnswer : {T : Type 0} → Tape T → Type 0
OneAnswer {T} tapes = (n : ℕ) (events : List (ProcessEvent T)) → IsTimeline tapes n events → EachMayRejoin n events →
    (k i l j : ℕ) (node other : Node T) → IsHeldAt n events k i node → IsHeldAt n events l j other → (s : ℕ) (query : List ℕ) (answer another : AnswerValue) →
    length node.parts.history ≡ s → length other.parts.history ≡ s →
    IsAnswerOf s node.parts.history query answer → IsAnswerOf s other.parts.history query another → another ≡ answer

-- So have two that a query asks for the same map, however many maps either has published.
abbrev pub OneMapAnswer : {T : Type 0} → Tape T → Type 0
OneMapAnswer {T} tapes = (n : ℕ) (events : List (ProcessEvent T)) → IsTimeline tapes n events → EachMayRejoin n events →
    (k i l j : ℕ) (node other : Node T) → IsHeldAt n events k i node → IsHeldAt n events l j other → (s t m : ℕ) (query : List ℕ) (answer another : AnswerValue) →
    AsksForMap m s query → AsksForMap m t query → length node.parts.history ≡ s → length other.parts.history ≡ t →
    IsAnswerOf s node.parts.history query answer → IsAnswerOf t other.parts.history query another → another ≡ answer

-- ---- how a timeline comes about

-- A timeline goes on with each event that may happen to a process as it is at its end. So the calls
-- of programs, each by its contract, make one.
abbrev pub TimelineGoesOn : {T : Type 0} → Tape T → Type 0
TimelineGoesOn {T} tapes = (n : ℕ) (events : List (ProcessEvent T)) (event : ProcessEvent T) → IsTimeline tapes n events → process_of event < n →
    IsPossible tapes n (returned_through events) (state_at events (length events) (process_of event)) event → IsTimeline tapes n (events ++ event ∷ [])

-- Of a timeline, those who are asked before a replacement are others than the process that is
-- replaced: it was lost by then.
abbrev pub AskedAreOthers : {T : Type 0} → Tape T → Type 0
AskedAreOthers {T} tapes = (n : ℕ) (events : List (ProcessEvent T)) → IsTimeline tapes n events → (k i : ℕ) (bytes : List ℕ) → slice_get events k ≡ Some (Rejoins i bytes) →
    (may : MayRejoin n events k i bytes) → may.asked i ≡ true → ⊥

-- ---- farms without a loss

-- no process is lost or replaced
abbrev pub IsWithoutLoss : {T : Type 0} → List (ProcessEvent T) → Type 0
IsWithoutLoss [] = ⊤
IsWithoutLoss (Loses i ∷ events) = ⊥
IsWithoutLoss (Rejoins i bytes ∷ events) = ⊥
IsWithoutLoss (event ∷ events) = IsWithoutLoss events

-- At some moments, the second not before the first, process i held these nodes.
pub record AreHeldInOrder {T : Type 0} (n : ℕ) (events : List (ProcessEvent T)) (i : ℕ) (node next : Node T) : Type 0 where
  pub moment : ℕ
  pub later : ℕ
  pub order : moment ≤ later
  pub held : IsHeldAt n events moment i node
  pub held_next : IsHeldAt n events later i next

-- The farm's processes are a timeline without a loss, by which the same messages are returned. What
-- a process of the farm held, it holds in the timeline, in the same order.
pub record IsOneTimeline {T : Type 0} (tapes : Tape T) (n : ℕ) (executions : ℕ → Execution T) (items : List Item) : Type 0 where
  pub events : List (ProcessEvent T)
  pub timeline : IsTimeline tapes n events
  pub without_loss : IsWithoutLoss events
  pub may_rejoin : EachMayRejoin n events
  pub returned : returned_through events ≡ outputs_in items
  pub held : (i moment later : ℕ) (node next : Node T) → i < n → moment ≤ later → slice_get (values (executions i)) moment ≡ Some node → slice_get (values (executions i)) later ≡ Some next →
      AreHeldInOrder n events i node next

-- So the theorems about farms of `wf_execution` are those about timelines without a loss.
abbrev pub FarmIsTimeline : {T : Type 0} → Tape T → Type 0
FarmIsTimeline {T} tapes = (n : ℕ) (executions : ℕ → Execution T) (items : List Item) → IsFarm tapes n executions items → IsOneTimeline tapes n executions items
