-- Replicas: processes that have no vote and no tape. They learn the published maps from answers, of
-- nodes and of one another.
use Rattle.std.specs.Prelude.{◌≡◌, ℕ, List, [], length, Some}
use Rattle.wf_def.specs.Definition.{Definition}
use Rattle.wf_learner.specs.History.{next_of, with_chosen}
use Rattle.wf_model.specs.Chosen.{IsIn}
use Rattle.wf_model.specs.Message.{Message, Prepare, Promise, Accept, Accepted, Nack, Chosen, Ask}
use Rattle.wf_model.specs.DurableState.{definition_at}
use Rattle.wf_model.specs.Table.{reports_from, most_reports}
use Rattle.wf_node.specs.Node.{Node}
use Rattle.wf_safety.specs.Theorems.{IsBeginning}
use Rattle.wf_tape.specs.declared.tape.Tape.{Ghosts as Tape}
use Rattle.wf_wms.specs.Answer.{AnswerValue, AsksForMap, IsAnswerOf}
use Rattle.wf_execution.specs.Execution.{Execution, Item, IsFarm}
use Rattle.wf_execution.specs.Theorems.{IsHeld}

-- the list of a replica after it has heard a message: one more if the message says what is chosen
-- under the next sequence
abbrev pub after_learning : List Definition → Message Definition → List Definition
after_learning list (Chosen s d) = with_chosen list s d
after_learning list (Prepare s b) = list
after_learning list (Promise i s b votes) = list
after_learning list (Accept s b d) = list
after_learning list (Accepted i s b) = list
after_learning list (Nack i s b promise) = list
after_learning list (Ask s) = list

-- the message says what is chosen under the next sequence
abbrev pub IsNews : List Definition → Message Definition → Type 0
IsNews list (Chosen s d) = s ≡ next_of list
IsNews list (Prepare s b) = ⊥
IsNews list (Promise i s b votes) = ⊥
IsNews list (Accept s b d) = ⊥
IsNews list (Accepted i s b) = ⊥
IsNews list (Nack i s b promise) = ⊥
IsNews list (Ask s) = ⊥

-- The lists that the processes of a farm, and any replicas of it, ever have: what a node has
-- published at some moment; the empty list of a replica that is new, or has lost its list; and what
-- a replica has after it has heard one of the messages by which such a list answers the question
-- for what is chosen from some sequence on. The message may have come late, repeatedly or out of
-- order.
pub data IsListOfFarm {T : Type 0} (n : ℕ) (executions : ℕ → Execution T) : List Definition → Type 0 where
  OfNode : (list : List Definition) (node : Node T) → IsHeld n executions node → list ≡ node.parts.history → IsListOfFarm n executions list
  Empty : (list : List Definition) → list ≡ [] → IsListOfFarm n executions list
  Learned : (before source list : List Definition) (asked : ℕ) (received : Message Definition) → IsListOfFarm n executions before → IsListOfFarm n executions source →
      IsIn received (reports_from source asked most_reports) → list ≡ after_learning before received → IsListOfFarm n executions list

-- There is one history, and each of these lists is a beginning of it.
pub record HasOneServed {T : Type 0} (n : ℕ) (executions : ℕ → Execution T) : Type 0 where
  pub history : List Definition
  pub each : (list : List Definition) → IsListOfFarm n executions list → IsBeginning list history

abbrev pub OneServed : {T : Type 0} → Tape T → Type 0
OneServed {T} tapes = (n : ℕ) (executions : ℕ → Execution T) (items : List Item) → IsFarm tapes n executions items → HasOneServed n executions

-- No two of these lists, of nodes or replicas, have different definitions under one sequence.
abbrev pub ServedAgree : {T : Type 0} → Tape T → Type 0
ServedAgree {T} tapes = (n : ℕ) (executions : ℕ → Execution T) (items : List Item) → IsFarm tapes n executions items →
    (list other : List Definition) → IsListOfFarm n executions list → IsListOfFarm n executions other → (s : ℕ) (c d : Definition) →
    definition_at list s ≡ Some c → definition_at other s ≡ Some d → c ≡ d

-- Two of them, as long as one another, have one answer to a query of the web map service: the same
-- kind, media type and bytes.
abbrev pub ServedAnswer : {T : Type 0} → Tape T → Type 0
ServedAnswer {T} tapes = (n : ℕ) (executions : ℕ → Execution T) (items : List Item) → IsFarm tapes n executions items →
    (list other : List Definition) → IsListOfFarm n executions list → IsListOfFarm n executions other → (s : ℕ) (query : List ℕ) (answer another : AnswerValue) →
    length list ≡ s → length other ≡ s → IsAnswerOf s list query answer → IsAnswerOf s other query another → another ≡ answer

-- So have two that a query asks for the same map, however long either is.
abbrev pub ServedMapAnswer : {T : Type 0} → Tape T → Type 0
ServedMapAnswer {T} tapes = (n : ℕ) (executions : ℕ → Execution T) (items : List Item) → IsFarm tapes n executions items →
    (list other : List Definition) → IsListOfFarm n executions list → IsListOfFarm n executions other → (s t m : ℕ) (query : List ℕ) (answer another : AnswerValue) →
    AsksForMap m s query → AsksForMap m t query → length list ≡ s → length other ≡ t →
    IsAnswerOf s list query answer → IsAnswerOf t other query another → another ≡ answer
