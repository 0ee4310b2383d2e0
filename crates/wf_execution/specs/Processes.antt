-- An example: three processes, of which one proposes a map, all three publish it, and one starts
-- again. Its premises are what the calls promise: `open` and `Node::step`, `deliver_all` of
-- wf_delivery, and `open` again.
use Rattle.std.specs.Prelude.{◌≡◌, ℕ, false, List, [], length, slice_get, slice_set, Some, Ok, Vec}
use Rattle.std.specs.declared.alloc.Global.{Global}
use Rattle.wf_codec.specs.declared.message.Message.{Message}
use Rattle.wf_def.specs.Definition.{Definition}
use Rattle.wf_model.specs.Table as table
use Rattle.wf_node.specs.Images.{StandsFor}
use Rattle.wf_node.specs.Node.{Node, stored_of}
use Rattle.wf_node.specs.Step.{IsStep}
use Rattle.wf_delivery.specs.Delivery.{AreHandedOut}
use Rattle.wf_delivery.specs.Delivery.{NoneHalted}
use Rattle.wf_delivery.specs.Publication.{AllPublish}
use Rattle.wf_tape.specs.declared.tape.Tape.{Ghosts as Tape}
use Rattle.wf_execution.specs.Run.{Run, last, IsOpenedFrom}
use Rattle.wf_execution.specs.Execution.{Execution, Item, IsFarm}
use Rattle.wf_execution.specs.Theorems.{outputs_in}

-- the process runs, and its node is this one now
pub record IsNow {T : Type 0} (execution : Execution T) (node : Node T) : Type 0 where
  pub run : Run T
  pub goes_on : execution.now ≡ Some run
  pub at : last run ≡ node

-- n processes run, their nodes are these, and these messages were returned
pub record AreRunning {T : Type 0} (tapes : Tape T) (n : ℕ) (nodes : List (Node T)) (sent : List Message) : Type 0 where
  pub executions : ℕ → Execution T
  pub items : List Item
  pub farm : IsFarm tapes n executions items
  pub outputs : outputs_in items ≡ sent
  pub as_many : length nodes ≡ n
  pub now : (i : ℕ) (node : Node T) → slice_get nodes i ≡ Some node → IsNow (executions i) node

-- each of the nodes was opened from an empty tape, as the node of its index
abbrev pub AreOpenedEmpty : {T : Type 0} → List (Node T) → Type 0
AreOpenedEmpty {T} nodes = (i : ℕ) (node : Node T) → slice_get nodes i ≡ Some node → IsOpenedFrom (length nodes) i [] node

-- the processes are a farm, and each has published exactly this
pub record HavePublished {T : Type 0} (tapes : Tape T) (nodes : List (Node T)) (d : Definition) : Type 0 where
  pub sent : List Message
  pub processes : AreRunning tapes 3 nodes sent
  pub published : AllPublish nodes d

-- One of three processes proposed a map, the messages were delivered to all until none was left,
-- and no delivery was lost. Then one was opened again, from bytes that stand for what it had
-- stored.
abbrev pub ThreeProcesses : {T : Type 0} → Tape T → Type 0
ThreeProcesses {T} tapes = (nodes after : List (Node T)) (i k : ℕ) (before proposed stopped again : Node T) (d : Definition) (outputs : Vec Message Global) (done : ℕ) (left : List ℕ) →
    length nodes ≡ 3 → AreOpenedEmpty nodes → slice_get nodes i ≡ Some before → IsStep tapes before (table.Propose d) (Ok outputs) proposed →
    AreHandedOut tapes (slice_set nodes i proposed) outputs.items done 0 false after → NoneHalted after →
    slice_get after k ≡ Some stopped → StandsFor (stored_of stopped) left → IsOpenedFrom 3 k left again → HavePublished tapes (slice_set after k again) d
