-- What replicas hear was told by the farm: what the program proves of it, and TCP's promise.
use Rattle.std.specs.Prelude.{ℕ, ◌<◌, ⊤, List, [], ◌∷◌}
use Rattle.wf_actor.specs.Farm.{Step}
use Rattle.wf_actor.specs.declared.process.Process.{Process}
use Rattle.wf_execution.specs.Execution.{Execution, Item}
use Rattle.wf_execution.specs.Replica.{IsListOfFarm}
use Rattle.wf_def.specs.Definition.{Definition}
use Rattle.wf_node_command.specs.Readers.{AreRepliedEarlier}
use Rattle.wf_mail.specs.Mail.{IsFirstPart}
use Rattle.wf_model.specs.Chosen.{IsIn}
use Rattle.wf_readers_port.specs.Exchanges.{Exchange, IsRepliedFrom, questions_of, replies_of}
use Rattle.wf_readers_port.specs.Readers.{IsReplied}
use Rattle.wf_readers_port.specs.declared.reader.Reader.{Reader}
use Rattle.wf_replica.specs.Follower.{list_of, received_by}
use Rattle.wf_replica.specs.Theorems.{AreReported}
use Rattle.wf_replica_command.specs.Conversation.{Conversation}
use Rattle.wf_replica_command.specs.Done.{HasServed}
use Rattle.wf_replica_command.specs.ReplicaLoop.{follower_of}
use Rattle.wf_safety.specs.Theorems.{IsBeginning}
use Rattle.wf_sockets.specs.declared.connection.Connection.{Ghosts as Connection}
use Rattle.wf_tape.specs.declared.tape.Tape.{Ghosts as Tape}
use Rattle.wf_voter.specs.Continuation.{IsEarlier}
use Rattle.wf_histories.specs.Answers.{HasMadeAll}
use Rattle.wf_histories.specs.Killed.{IsWithinActs}
use Rattle.wf_histories.specs.Nodes.{NodeProcess}
use Rattle.wf_histories.specs.Theorems.{AreFarm}

module _ {T : Type 0} (n : ℕ) (executions : ℕ → Execution T) where
  -- a readers' port of the farm replied to a question, by a list that a node of it, or a replica of
  -- it, had
  pub record IsRepliedByFarm (exchange : Exchange) : Type 0 where
    pub source : List Definition
    pub served : IsListOfFarm n executions source
    pub replied : IsRepliedFrom source exchange

  -- so each of these exchanges
  unfoldable pub AreRepliedByFarm : List Exchange → Type 0
  AreRepliedByFarm [] = ⊤
  AreRepliedByFarm (exchange ∷ exchanges) = IsRepliedByFarm exchange × AreRepliedByFarm exchanges

  -- ---- the premise

  -- The replica's connection is one to a readers' port of the farm, where these exchanges were made
  -- by then: what had come at the replica is a beginning of the
  -- replies, and the questions are a beginning of what the replica had sent.
  pub record IsToldByFarmOn (conversation : Conversation) : Type 0 where
    pub exchanges : List Exchange
    pub by_farm : AreRepliedByFarm exchanges
    pub came : IsFirstPart conversation.came (replies_of exchanges)
    pub asked : IsFirstPart (questions_of exchanges) conversation.sent

  -- so is each connection on which a reply came
  unfoldable pub AreToldByFarmOn : List Conversation → Type 0
  AreToldByFarmOn [] = ⊤
  AreToldByFarmOn (conversation ∷ conversations) = IsToldByFarmOn conversation × AreToldByFarmOn conversations

-- ---- what ports replied

-- What readers of a process of the farm were replied by a moment within the acts that it made was
-- replied by lists of the farm.
abbrev pub NodesReplyByFarm : {N : Type 0} → Tape N → Type 0
NodesReplyByFarm {N} tapes = (n : ℕ) (before : ℕ → Execution N) (earlier : List Item) (folders : ℕ → List (NodeProcess tapes)) (steps : List Step) (are : AreFarm tapes n before earlier folders steps)
    (i : ℕ) (p : NodeProcess tapes) (past : Process N tapes) → i < n → IsIn p (folders i) → IsEarlier tapes past p.has.on.voter.process → IsWithinActs tapes p past →
    (exchanges : List Exchange) → ∥ AreRepliedEarlier tapes past exchanges ∥₁ → ∥ AreRepliedByFarm n are.executions exchanges ∥₁

-- So all that readers of one that made all its acts were replied.
abbrev pub WholeNodesReplyByFarm : {N : Type 0} → Tape N → Type 0
WholeNodesReplyByFarm {N} tapes = (n : ℕ) (before : ℕ → Execution N) (earlier : List Item) (folders : ℕ → List (NodeProcess tapes)) (steps : List Step) (are : AreFarm tapes n before earlier folders steps)
    (i : ℕ) (p : NodeProcess tapes) → i < n → IsIn p (folders i) → HasMadeAll tapes p → ∥ AreRepliedByFarm n are.executions p.has.on.exchanges ∥₁

-- What readers of a replica were replied was so, if lists of the farm told all that it ever heard.
abbrev pub ReplicasReplyByFarm : {R : Type 0} → Type 0 → Tape R → Type 0
ReplicasReplyByFarm N shelves = (n : ℕ) (executions : ℕ → Execution N) (served : HasServed shelves) → ∥ AreReported n executions (received_by (follower_of served.event_loop)) ∥₁ →
    ∥ AreRepliedByFarm n executions served.event_loop.exchanges ∥₁

-- ---- on a folder

module _ {T R : Type 0} (shelves : Tape R) (n : ℕ) (executions : ℕ → Execution T) where
  -- Processes of a replica, one after the other on its folder: each began with what it read of the
  -- tape, a beginning of the list that the one before it had; and each was told by the farm on its
  -- connections. The first one began with a beginning of this list.
  unfoldable pub AreReplicasOnFolder : List Definition → List (HasServed shelves) → Type 0
  AreReplicasOnFolder left [] = ⊤
  AreReplicasOnFolder left (served ∷ later) =
      IsBeginning (list_of (follower_of served.begun)) left × ∥ AreToldByFarmOn n executions served.event_loop.conversations ∥₁ × AreReplicasOnFolder (list_of (follower_of served.event_loop)) later

  -- lists of the farm told all that each of them ever heard
  unfoldable pub AreAllReported : List (HasServed shelves) → Type 0
  AreAllReported [] = ⊤
  AreAllReported (served ∷ later) = ∥ AreReported n executions (received_by (follower_of served.event_loop)) ∥₁ × AreAllReported later

-- ---- the theorems

-- Then lists of the farm told all that such replicas ever heard, if the first one began with none.
abbrev pub ReplicasAreTold : {R : Type 0} → Type 0 → Tape R → Type 0
ReplicasAreTold N shelves = (n : ℕ) (executions : ℕ → Execution N) (processes : List (HasServed shelves)) → AreReplicasOnFolder shelves n executions [] processes → AreAllReported shelves n executions processes

-- Readers' ports meet the premise on connections, by what `always_replied` says of each reader, if
-- all that the port replied was by lists of the farm, and what had come at either end is a
-- beginning of what had been sent at the other.
abbrev pub PortsTell : {C : Type 0} → Type 0 → Connection C → Type 0
PortsTell {C} N connections = (n : ℕ) (executions : ℕ → Execution N) (all : List Exchange) (reader : Reader C connections) (conversation : Conversation) → IsReplied connections all reader → ∥ AreRepliedByFarm n executions all ∥₁ →
    IsFirstPart conversation.came (connections.sent reader.connection) → IsFirstPart (connections.came reader.connection) conversation.sent → ∥ IsToldByFarmOn n executions conversation ∥₁
