-- Whole responses over HTTP, of nodes and replicas of a farm.
use Rattle.std.specs.Prelude.{◌≡◌, ◌≢◌, ℕ, List, []}
use Rattle.wf_actor.specs.Farm.{Step}
use Rattle.wf_actor.specs.Responses.{AskedAlike}
use Rattle.wf_execution.specs.Execution.{Execution, Item}
use Rattle.wf_def.specs.Definition.{Definition}
use Rattle.wf_edge.specs.Theorem.{AsksMapService}
use Rattle.wf_edge.specs.declared.outcome.Outcome.TheVariants.{Sent}
use Rattle.wf_replica.specs.Follower.{list_of, received_by}
use Rattle.wf_replica.specs.LearnedList.{learned}
use Rattle.wf_replica.specs.Service.{IsInputServed}
use Rattle.wf_replica.specs.Theorems.{AreReported}
use Rattle.wf_replica.specs.declared.follower.Follower.{Follower}
use Rattle.wf_replica_command.specs.Continuation.{IsLaterReplica}
use Rattle.wf_replica_command.specs.Done.{HasServed}
use Rattle.wf_replica_command.specs.ReplicaLoop.{follower_of}
use Rattle.wf_tape.specs.declared.tape.Tape.{Ghosts as Tape}
use Rattle.wf_histories.specs.Nodes.{NodeProcess}
use Rattle.wf_histories.specs.Theorems.{AreFarm, WasSent}

module _ {N R : Type 0} (tapes : Tape N) (shelves : Tape R) (n : ℕ) (before : ℕ → Execution N) (earlier : List Item) (folders : ℕ → List (NodeProcess tapes)) (steps : List Step)
    (are : AreFarm tapes n before earlier folders steps) where
  -- A client was sent this whole response to what had come of its request, by a replica as it then
  -- was, which was told by the farm: `HasAnsweredByList` and `HasOnlyGrown` of `wf_replica_command`
  -- say so of each client. No allocation failed (503).
  pub record WasSentByReplica (came response : List ℕ) : Type 0 where
    pub served : HasServed shelves
    pub reported : ∥ AreReported n are.executions (received_by (follower_of served.event_loop)) ∥₁
    pub replica : Follower R shelves
    pub goes_on : IsLaterReplica replica (follower_of served.event_loop)
    pub lived : learned [] (received_by replica) ≡ list_of replica
    pub status : ℕ
    pub count : ℕ
    pub written : IsInputServed came (list_of replica) [] response (Sent status count)
    pub answers : status ≢ 503

  -- A client of a node or of a replica of the farm was sent this.
  pub data WasSentByFarm (came response : List ℕ) : Type 0 where
    ByNode : WasSent tapes n before folders came response → WasSentByFarm came response
    ByReplica : WasSentByReplica came response → WasSentByFarm came response

  -- the list from which it was answered
  abbrev pub list_behind : (came response : List ℕ) → WasSentByFarm came response → List Definition
  list_behind came response (ByNode sent) = sent.process.actor.node.parts.history
  list_behind came response (ByReplica sent) = list_of sent.replica

  -- Two clients that ask the map service the same, whichever nodes or replicas answered them, get
  -- equal bytes, where these had equally many maps or are asked for one map.
  abbrev pub AllGetEqually : Type 0
  AllGetEqually = (came query response another : List ℕ) (one : WasSentByFarm came response) (two : WasSentByFarm came another) →
      AsksMapService came query → AskedAlike query (list_behind came response one) (list_behind came another two) → another ≡ response

abbrev pub FarmsGetEqually : {N R : Type 0} → Tape N → Tape R → Type 0
FarmsGetEqually {N} tapes shelves = (n : ℕ) (before : ℕ → Execution N) (earlier : List Item) (folders : ℕ → List (NodeProcess tapes)) (steps : List Step) (are : AreFarm tapes n before earlier folders steps) →
    AllGetEqually tapes shelves n before earlier folders steps are
