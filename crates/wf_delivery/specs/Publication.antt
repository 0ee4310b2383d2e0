-- Deliveries of which none is lost and at which no tape fails: exactly those of whole rounds. A
-- proposal at one of three new nodes: all three publish it. And new nodes of which one catches up:
-- they are new still.
use Rattle.std.specs.Prelude.{◌≡◌, ◌<◌, ℕ, ⊤, Bool, false, List, [], ◌∷◌, length, slice_get, slice_set, Some, Result, Ok, Vec}
use Rattle.std.specs.declared.alloc.Global.{Global}
use Rattle.wf_codec.specs.declared.message.Message.{Message}
use Rattle.wf_def.specs.Definition.{Definition}
use Rattle.wf_def.specs.Equality.{definition_eq}
use Rattle.wf_delivery.specs.declared.progress.PumpProgress.{PumpProgress}
use Rattle.wf_delivery.specs.Delivery.{AnyPart, AreHandedOut, IsDeliveryEnd, NoneHalted, Refines, StandInTurn}
use Rattle.wf_delivery.specs.Reachability.{AreFresh, outputs_by}
use Rattle.wf_model.specs.Table as table
use Rattle.wf_model.specs.VolatileState.{Idle, Overtaken, Proposing, Running, Won}
use Rattle.wf_model.specs.World.{World, steps}
use Rattle.wf_node.specs.Node.{Node, volatile_of}
use Rattle.wf_node.specs.Step.{IsStep}
use Rattle.wf_node.specs.declared.fault.NodeFault.{NodeFault}
use Rattle.wf_delivery.specs.Rounds.{AreTargets, deliveries}
use Rattle.wf_tape.specs.declared.tape.Tape.{Ghosts as Tape}

-- no proposal is running
abbrev pub Rests : Proposing Definition → Type 0
Rests Idle = ⊤
Rests (Running proposal) = ⊥
Rests (Won s) = ⊤
Rests (Overtaken s) = ⊤

-- Each node has published exactly this definition, under sequence 1, and no proposal is running.
unfoldable pub AllPublish : {T : Type 0} → List (Node T) → Definition → Type 0
AllPublish {T} nodes d = (i : ℕ) (node : Node T) → slice_get nodes i ≡ Some node → (node.parts.history ≡ d ∷ []) × Rests (volatile_of node).proposing

-- ---- deliveries in rounds

-- `done` deliveries led from the world to exactly what the nodes are: those of the first messages
-- to each of these nodes, as a pump makes them.
pub record HaveBeenDelivered {T : Type 0} (targets : List ℕ) (w : World Definition) (done : ℕ) (stopped : Bool) (after : List (Node T)) : Type 0 where
  pub come : PumpProgress
  pub part : come.some < length targets
  pub counted : length (deliveries targets 0 come.whole come.some) ≡ done
  pub sent : List Message
  pub refines : Refines AnyPart after sent (steps definition_eq w (deliveries targets 0 come.whole come.some))
  pub ended : IsDeliveryEnd stopped come sent

module _ {T : Type 0} (tapes : Tape T) where
  -- From whatever world the nodes and the messages were, deliveries of which none was lost, and at
  -- which no tape failed, are those of a pump to every node.
  abbrev pub DeliveredExactly : Type 0
  DeliveredExactly = (nodes after : List (Node T)) (messages : List Message) (done : ℕ) (stopped : Bool) (w : World Definition) (targets : List ℕ) → 0 < length nodes → AreTargets (length nodes) [] targets →
      StandInTurn nodes → Refines AnyPart nodes messages w → AreHandedOut tapes nodes messages done 0 stopped after → NoneHalted after → HaveBeenDelivered targets w done stopped after

-- ---- three new nodes

-- One of three new nodes proposed a definition, and its messages were delivered to all, and so were
-- those sent in reply, until none was left; no delivery was lost, and no tape failed. These were 27
-- deliveries, and all three nodes have published the definition; the proposal has ended.
abbrev pub PublishedOnAll : {T : Type 0} → Tape T → Type 0
PublishedOnAll {T} tapes = (nodes after : List (Node T)) (i : ℕ) (before proposed : Node T) (d : Definition) (outputs : Vec Message Global) (done : ℕ) →
    length nodes ≡ 3 → StandInTurn nodes → AreFresh nodes → slice_get nodes i ≡ Some before → IsStep tapes before (table.Propose d) (Ok outputs) proposed →
    AreHandedOut tapes (slice_set nodes i proposed) outputs.items done 0 false after → NoneHalted after → (done ≡ 27) × AllPublish after d

-- ---- new nodes that catch up

-- One of new nodes was asked for the definition after its last one, and its messages were
-- delivered, some of them perhaps lost; no tape failed. The nodes are new still.
abbrev pub NewStayNew : {T : Type 0} → Tape T → Type 0
NewStayNew {T} tapes = (nodes after : List (Node T)) (i : ℕ) (before asked : Node T) (answer : Result (Vec Message Global) NodeFault) (done lost : ℕ) (stopped : Bool) → AreFresh nodes →
    slice_get nodes i ≡ Some before → IsStep tapes before table.CatchUp answer asked → AreHandedOut tapes (slice_set nodes i asked) (outputs_by answer) done lost stopped after →
    NoneHalted after → AreFresh after
