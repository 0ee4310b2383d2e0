-- Replicas of a farm whose nodes are processes of `wfarm node`.
use Rattle.std.specs.Prelude.{◌≡◌, ℕ, ◌≤◌, List, [], length, take}
use Rattle.wf_actor.specs.Farm.{Step}
use Rattle.wf_execution.specs.Execution.{Execution, Item}
use Rattle.wf_def.specs.Definition.{Definition}
use Rattle.wf_node.specs.Node.{Node}
use Rattle.wf_replica.specs.Follower.{received_by}
use Rattle.wf_replica.specs.LearnedList.{learned}
use Rattle.wf_replica.specs.Theorems.{AreReported}
use Rattle.wf_replica_command.specs.Done.{HasServed}
use Rattle.wf_replica_command.specs.ReplicaLoop.{follower_of}
use Rattle.wf_safety.specs.Theorems.{IsBeginning}
use Rattle.wf_tape.specs.declared.tape.Tape.{Ghosts as Tape}
use Rattle.wf_wms.specs.Answer.{AnswerValue, AsksForMap, IsAnswerOf}
use Rattle.wf_histories.specs.Nodes.{NodeProcess}
use Rattle.wf_histories.specs.Theorems.{AreFarm, IsEver}

module _ {R : Type 0} (shelves : Tape R) where
  -- the list of a replica, a process of `wfarm replica`, once it had heard so many messages
  abbrev pub learned_by : HasServed shelves → ℕ → List Definition
  learned_by served moment = learned [] (take moment (received_by (follower_of served.event_loop)))

module _ {N R : Type 0} (tapes : Tape N) (shelves : Tape R) (n : ℕ) (before : ℕ → Execution N) (earlier : List Item) (folders : ℕ → List (NodeProcess tapes)) (steps : List Step)
    (are : AreFarm tapes n before earlier folders steps) where
  -- The lists from which the farm answers: what a node had published at some moment, and what a
  -- replica had learned at some moment, if all that it ever heard was told by lists of nodes and of
  -- replicas of the farm.
  pub data IsList : List Definition → Type 0 where
    OfNode : (list : List Definition) (node : Node N) → IsEver tapes n before folders node → list ≡ node.parts.history → IsList list
    OfReplica : (list : List Definition) (served : HasServed shelves) (moment : ℕ) → ∥ AreReported n are.executions (received_by (follower_of served.event_loop)) ∥₁ → list ≡ learned_by shelves served moment → IsList list

  -- There is one history, of which each of these lists is a beginning. Two that are equally long
  -- have one answer to a query of the map service, and so have two that it asks for one map. No
  -- replica's list goes back.
  pub record ListsAgree : Type 0 where
    pub history : List Definition
    pub each : (list : List Definition) → IsList list → IsBeginning list history
    pub answer : (list other : List Definition) → IsList list → IsList other → (s : ℕ) (query : List ℕ) (answer another : AnswerValue) → length list ≡ s → length other ≡ s →
        IsAnswerOf s list query answer → IsAnswerOf s other query another → another ≡ answer
    pub map : (list other : List Definition) → IsList list → IsList other → (s t m : ℕ) (query : List ℕ) (answer another : AnswerValue) →
        AsksForMap m s query → AsksForMap m t query → length list ≡ s → length other ≡ t →
        IsAnswerOf s list query answer → IsAnswerOf t other query another → another ≡ answer
    pub grow : (served : HasServed shelves) (moment later : ℕ) → moment ≤ later → IsBeginning (learned_by shelves served moment) (learned_by shelves served later)

abbrev pub ReplicasAgree : {N R : Type 0} → Tape N → Tape R → Type 0
ReplicasAgree {N} tapes shelves = (n : ℕ) (before : ℕ → Execution N) (earlier : List Item) (folders : ℕ → List (NodeProcess tapes)) (steps : List Step) (are : AreFarm tapes n before earlier folders steps) →
    ListsAgree tapes shelves n before earlier folders steps are
