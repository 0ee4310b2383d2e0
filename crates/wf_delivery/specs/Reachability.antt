-- Nodes that a caller holds, while they are asked to step and messages are delivered, any number of
-- times: some events lead from each of their states to the next, whatever was sent by then. So one
-- run of the model leads from the start to their final state.
use Rattle.std.specs.Prelude.{◌≡◌, ℕ, true, false, ⊤, List, [], ◌++◌, length, slice_get, slice_set, Some, Result, Ok, Err, Vec}
use Rattle.wf_delivery.specs.Common.{Global, Message, Definition, definition_eq, DurableState, nothing_stored, definition_at, Input, at_start, World, Event, steps, after, Node, stored_of, volatile_of, IsStep, NodeFault, Halted, AnswerValue, AsksForMap, IsAnswerOf}
use Rattle.wf_model.specs.Table as table
use Rattle.wf_model.specs.World as world
use Rattle.wf_delivery.specs.Delivery.{AnyPart, StandFor, Refines, StandInTurn, MayLeaveOfEach, KeepHalted, KeepTurn, IsDelivered}
use Rattle.wf_tape.specs.declared.tape.Tape.{Ghosts as Tape}

-- ---- what leads from a world

-- Some events lead from the world to what the nodes and the messages are now.
pub record IsReachableWith {T : Type 0} (stands : ℕ → DurableState Definition → Type 0) (w : World Definition) (nodes : List (Node T)) (sent : List Message) : Type 0 where
  pub events : List (Event Definition)
  pub refines : Refines stands nodes sent (steps definition_eq w events)

-- Some events lead from the world to what the nodes are now, with whatever messages were sent by
-- then.
pub record IsReachableFrom {T : Type 0} (stands : ℕ → DurableState Definition → Type 0) (w : World Definition) (nodes : List (Node T)) : Type 0 where
  pub sent : List Message
  pub events : List (Event Definition)
  pub refines : Refines stands nodes sent (steps definition_eq w events)

-- From whatever world the nodes were, and whatever was sent, some events lead to what the nodes are
-- afterwards, and these events send exactly these messages.
unfoldable pub ReachSending : {T : Type 0} → (ℕ → DurableState Definition → Type 0) → List (Node T) → List Message → List (Node T) → Type 0
ReachSending stands nodes outputs nodes_after = (w : World Definition) (sent : List Message) → Refines stands nodes sent w → IsReachableWith stands w nodes_after (sent ++ outputs)

-- From whatever world the nodes were, and whatever was sent, some events lead to what the nodes are
-- afterwards.
unfoldable pub Reach : {T : Type 0} → (ℕ → DurableState Definition → Type 0) → List (Node T) → List (Node T) → Type 0
Reach stands nodes nodes_after = (w : World Definition) (sent : List Message) → Refines stands nodes sent w → IsReachableFrom stands w nodes_after

-- ---- the same over any kind of tape, and over a durable one for whatever bytes a crash leaves of
-- the tapes that failed

module _ {T : Type 0} (tapes : Tape T) where
  -- Some events lead to what the nodes are afterwards, and send these messages. A node whose tape
  -- failed before is unchanged; each keeps its index and what it published.
  pub record AreReachableSending (nodes : List (Node T)) (outputs : List Message) (nodes_after : List (Node T)) : Type 0 where
    pub any : ReachSending AnyPart nodes outputs nodes_after
    pub on_tape : tapes.durable → (left : ℕ → List ℕ) → MayLeaveOfEach tapes nodes_after left → ReachSending (StandFor left) nodes outputs nodes_after
    pub halted : KeepHalted nodes nodes_after
    pub turn : KeepTurn nodes nodes_after

  -- Some events lead to what the nodes are afterwards, whatever messages they send.
  pub record AreReachableFrom (nodes nodes_after : List (Node T)) : Type 0 where
    pub any : Reach AnyPart nodes nodes_after
    pub on_tape : tapes.durable → (left : ℕ → List ℕ) → MayLeaveOfEach tapes nodes_after left → Reach (StandFor left) nodes nodes_after
    pub halted : KeepHalted nodes nodes_after
    pub turn : KeepTurn nodes nodes_after

-- ---- from the start on

-- Some events lead from the start to what the nodes are now.
pub record AreReachable {T : Type 0} (stands : ℕ → DurableState Definition → Type 0) (nodes : List (Node T)) : Type 0 where
  pub sent : List Message
  pub events : List (Event Definition)
  pub refines : Refines stands nodes sent (after definition_eq (length nodes) events)

-- a node that runs, with all parts empty
pub record IsFresh {T : Type 0} (node : Node T) : Type 0 where
  pub runs : node.halted ≡ false
  pub stored : stored_of node ≡ nothing_stored
  pub volatile : volatile_of node ≡ at_start

-- that node of the model
abbrev pub fresh_node : world.Node Definition
fresh_node = record { stored = nothing_stored; volatile = Some at_start }

unfoldable pub AreFresh : {T : Type 0} → List (Node T) → Type 0
AreFresh {T} nodes = (i : ℕ) (node : Node T) → slice_get nodes i ≡ Some node → IsFresh node

-- Any two of the nodes have published one definition under one sequence, even if their tapes have
-- failed since.
unfoldable pub HaveOneHistory : {T : Type 0} → List (Node T) → Type 0
HaveOneHistory {T} nodes = (i j s : ℕ) (node other : Node T) (c d : Definition) → slice_get nodes i ≡ Some node → slice_get nodes j ≡ Some other →
    definition_at node.parts.history s ≡ Some c → definition_at other.parts.history s ≡ Some d → c ≡ d

-- Two of the nodes with the same last published sequence have one answer to a query of the web map
-- service: the same kind, media type and bytes.
unfoldable pub HaveOneAnswer : {T : Type 0} → List (Node T) → Type 0
HaveOneAnswer {T} nodes = (i j s : ℕ) (node other : Node T) (query : List ℕ) (answer another : AnswerValue) → slice_get nodes i ≡ Some node → slice_get nodes j ≡ Some other →
    length node.parts.history ≡ s → length other.parts.history ≡ s → IsAnswerOf s node.parts.history query answer → IsAnswerOf s other.parts.history query another → another ≡ answer

-- Two of the nodes that a query asks for the same map have one answer to it, whatever their last
-- published sequences.
unfoldable pub HaveOneMapAnswer : {T : Type 0} → List (Node T) → Type 0
HaveOneMapAnswer {T} nodes = (i j s t m : ℕ) (node other : Node T) (query : List ℕ) (answer another : AnswerValue) → slice_get nodes i ≡ Some node → slice_get nodes j ≡ Some other →
    AsksForMap m s query → AsksForMap m t query → length node.parts.history ≡ s → length other.parts.history ≡ t →
    IsAnswerOf s node.parts.history query answer → IsAnswerOf t other.parts.history query another → another ≡ answer

-- ---- the theorems

-- an input that the holder gives a node: any but a delivery
abbrev pub IsOwnInput : Input Definition → Type 0
IsOwnInput (table.Propose d) = ⊤
IsOwnInput table.Retry = ⊤
IsOwnInput table.CatchUp = ⊤
IsOwnInput (table.Deliver m) = ⊥

-- the messages of a node that returns this: none if it rejects, or an allocation or its tape fails
abbrev pub outputs_by : Result (Vec Message Global) NodeFault → List Message
outputs_by (Ok outputs) = outputs.items
outputs_by (Err why) = []

-- One of the nodes is asked for a step, and returns: the nodes are led on, and exactly its messages
-- were sent. A halted node rejects, and is unchanged.
abbrev pub StepIsReachable : {T : Type 0} → Tape T → Type 0
StepIsReachable {T} tapes = (nodes : List (Node T)) (i : ℕ) (before after : Node T) (input : Input Definition) (answer : Result (Vec Message Global) NodeFault) →
    slice_get nodes i ≡ Some before → StandInTurn nodes → IsOwnInput input → (before.halted ≡ true → (answer ≡ Err Halted) × (after ≡ before)) →
    (before.halted ≡ false → IsStep tapes before input answer after) → AreReachableSending tapes nodes (outputs_by answer) (slice_set nodes i after)

-- Nodes to which sent messages are delivered are led on, however many were sent before.
abbrev pub DeliveriesAreReachable : {T : Type 0} → Tape T → Type 0
DeliveriesAreReachable {T} tapes = (nodes middle after : List (Node T)) (outputs : List Message) (done : ℕ) →
    AreReachableSending tapes nodes outputs middle → IsDelivered tapes middle outputs done after → AreReachableFrom tapes nodes after

-- Nodes to which nothing happens are led to themselves, and nothing is sent.
abbrev pub NothingIsReachable : {T : Type 0} → Tape T → Type 0
NothingIsReachable {T} tapes = (nodes : List (Node T)) → AreReachableFrom tapes nodes nodes

abbrev pub NothingIsOutput : {T : Type 0} → Tape T → Type 0
NothingIsOutput {T} tapes = (nodes : List (Node T)) → AreReachableSending tapes nodes [] nodes

-- Two runs in turn are one run; the messages sent are those of the first and then those of the
-- second.
abbrev pub ReachableIsTransitive : {T : Type 0} → Tape T → Type 0
ReachableIsTransitive {T} tapes = (nodes middle after : List (Node T)) → AreReachableFrom tapes nodes middle → AreReachableFrom tapes middle after → AreReachableFrom tapes nodes after

abbrev pub BothAreOutput : {T : Type 0} → Tape T → Type 0
BothAreOutput {T} tapes = (nodes middle after : List (Node T)) (outputs more : List Message) →
    AreReachableSending tapes nodes outputs middle → AreReachableSending tapes middle more after → AreReachableSending tapes nodes (outputs ++ more) after

-- Messages sent need not be delivered.
abbrev pub UnheardIsReachable : {T : Type 0} → Tape T → Type 0
UnheardIsReachable {T} tapes = (nodes after : List (Node T)) (outputs : List Message) → AreReachableSending tapes nodes outputs after → AreReachableFrom tapes nodes after

-- Nodes led on from reached nodes are reached; over a durable tape also with the bytes that a crash
-- leaves of the tapes that failed.
abbrev pub ReachableStaysReachable : {T : Type 0} → Tape T → Type 0
ReachableStaysReachable {T} tapes = (nodes after : List (Node T)) → AreReachable AnyPart nodes → AreReachableFrom tapes nodes after → AreReachable AnyPart after

abbrev pub ReachableOnTape : {T : Type 0} → Tape T → Type 0
ReachableOnTape {T} tapes = tapes.durable → (left : ℕ → List ℕ) (nodes after : List (Node T)) → MayLeaveOfEach tapes after left →
    AreReachable (StandFor left) nodes → AreReachableFrom tapes nodes after → AreReachable (StandFor left) after

-- Fresh nodes are the start, whatever bytes a crash leaves of the tapes that failed: none failed.
abbrev pub FreshAreReachable : Type 0 → Type 0
FreshAreReachable T = (nodes : List (Node T)) → AreFresh nodes → AreReachable AnyPart nodes

abbrev pub FreshOnTape : Type 0 → Type 0
FreshOnTape T = (left : ℕ → List ℕ) (nodes : List (Node T)) → AreFresh nodes → AreReachable (StandFor left) nodes
