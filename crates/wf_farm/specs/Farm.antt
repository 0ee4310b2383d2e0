-- The model of a farm in contracts, and the invariant of every farm.
use Rattle.std.specs.Prelude.{◌≡◌, ◌≤◌, ◌<◌, ◌++◌, ℕ, Bool, true, List, [], length, map, take, Option, Some, None}
use Rattle.wf_codec.specs.Message as message
use Rattle.wf_farm.specs.Common.{Message, Definition, definition_eq, World, Event, after, Node, TapeValue, IsImageNow, NeverFails}
use Rattle.wf_farm.specs.declared.rejection.Rejection.{Rejection}
use Rattle.wf_farm.specs.declared.cluster.NodeHost.{NodeHost}
use Rattle.wf_farm.specs.declared.cluster.NodeHost.TheVariants.{Running, Stopped}
use Rattle.wf_farm.specs.declared.fault.FarmFault.{FarmFault}
use Rattle.wf_farm.specs.declared.fault.FarmFault.TheVariants.{Memory, NoNode, Carried}
use Rattle.wf_farm.specs.Cluster as cluster
use Rattle.wf_farm.specs.Cluster.{Moves}
use Rattle.wf_farm.specs.NodeHost.{MemoryHost}
use Rattle.wf_farm.specs.Hosts.{AreNodes, AreAtTheirIndex}

-- Its nodes' entries and the messages sent; the number of the first message not pumped yet; the
-- rejection of the last run's last event, if it was rejected; and whether these are all messages
-- ever sent, or it has forgotten the earlier ones.
pub record Farm (T : Type 0) : Type 0 where
  pub hosts : List (NodeHost T)
  pub sent : List Message
  pub pumped : ℕ
  pub refused : Option Rejection
  pub complete : Bool

-- a farm whose tapes are in memory
abbrev pub MemoryFarm : Type 0
MemoryFarm = Farm TapeValue

-- The farm is this world.
abbrev pub Refines : MemoryFarm → World Definition → Type 0
Refines farm w = cluster.Refines farm.hosts farm.sent w

-- the number of its nodes
abbrev pub size : {T : Type 0} → Farm T → ℕ
size farm = length farm.hosts

-- the node in an entry, if it runs
abbrev pub running_in : {T : Type 0} → Option (NodeHost T) → Option (Node T)
running_in None = None
running_in (Some (Running node)) = Some node
running_in (Some (Stopped tape)) = None

-- Some events lead from the start to a world that these are; the messages are all that were sent,
-- or the last of them.
pub record IsReachable {T : Type 0} (images : T → List ℕ → Type 0) (complete : Bool) (hosts : List (NodeHost T)) (sent : List Message) : Type 0 where
  pub events : List (Event Definition)
  pub earlier : List Message
  pub nodes : AreNodes images hosts (after definition_eq (length hosts) events).nodes
  pub messages : (after definition_eq (length hosts) events).sent ≡ map message.view (earlier ++ sent)
  pub all : complete ≡ true → earlier ≡ []

-- The invariant of every farm: it has 1 to 64 nodes, running or stopped; and if its tapes are
-- durable, some events have led to it from the start.
pub record IsSoundFarm {T : Type 0} (durable : Type 0) (images : T → List ℕ → Type 0) (never_fails : T → Type 0) (hosts : List (NodeHost T)) (sent : List Message) (pumped : ℕ) (complete : Bool) : Type 0 where
  pub some : 1 ≤ length hosts
  pub most : length hosts ≤ 64
  pub members : AreAtTheirIndex durable images never_fails hosts
  pub pumped_within : pumped ≤ length sent
  pub reached : durable → IsReachable images complete hosts sent

-- the same of a farm in memory, whose tapes are durable
abbrev pub IsMemoryFarm : List MemoryHost → List Message → ℕ → Bool → Type 0
IsMemoryFarm hosts sent pumped complete = IsSoundFarm (Unit {0}) IsImageNow NeverFails hosts sent pumped complete

-- the farm after these events
abbrev pub Runs : List (Event Definition) → MemoryFarm → MemoryFarm → Type 0
Runs events before after = Moves events before.hosts before.sent after.hosts after.sent

-- The farm after an allocation failure: the number of events that the error reports are done.
abbrev pub RunsPart : FarmFault → List (Event Definition) → MemoryFarm → MemoryFarm → Type 0
RunsPart (Memory done) events before after = (done < length events) × Runs (take done events) before after
RunsPart NoNode events before after = ⊥
RunsPart (Carried done) events before after = ⊥

-- the error is allocation failure before anything was done
abbrev pub IsAtOnce : FarmFault → Type 0
IsAtOnce fault = fault ≡ Memory 0
