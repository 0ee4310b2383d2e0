-- Delivery of messages to nodes that a caller holds, over any kind of tape: which world of the
-- model the nodes are, and the effect of the deliveries on it.
use Rattle.std.specs.Prelude.{◌≡◌, ◌⊎◌, ◌≤◌, ◌<◌, ℕ, Bool, true, false, ⊤, List, [], ◌∷◌, ◌++◌, length, map, slice_get, slice_set, Some, None}
use Rattle.wf_codec.specs.Message as message
use Rattle.wf_delivery.specs.Common.{Message, Definition, definition_eq, IsBeginning, DurableState, Action, World, Event, happens, steps, IsGrown, StandsFor, Node, stored_of, volatile_of}
use Rattle.wf_model.specs.Table as table
use Rattle.wf_model.specs.World as world
use Rattle.wf_delivery.specs.declared.progress.PumpProgress.{PumpProgress}
use Rattle.wf_delivery.specs.NodeInput.{MayBeLost, Takes}
use Rattle.wf_delivery.specs.Progress.{counted, next, most_deliveries}
use Rattle.wf_tape.specs.declared.tape.Tape.{Ghosts as Tape}

-- ---- nodes and a world

-- What is known of the durable state that the tape of a failed node stands for, by node number:
-- nothing; or that the bytes which a crash leaves of the tape stand for it.
abbrev pub AnyPart : ℕ → DurableState Definition → Type 0
AnyPart i stored = ⊤

abbrev pub StandFor : (ℕ → List ℕ) → ℕ → DurableState Definition → Type 0
StandFor left i stored = StandsFor stored (left i)

-- The node is this node of the model. A running node has both its parts. A node whose tape failed
-- is stopped; the list that it reports as published is a prefix of the stored one, and the durable
-- state is as its tape is known to be.
abbrev pub IsNodeBy : {T : Type 0} → Bool → (DurableState Definition → Type 0) → Node T → world.Node Definition → Type 0
IsNodeBy false stands node shown = shown ≡ record { stored = stored_of node; volatile = Some (volatile_of node) }
IsNodeBy true stands node shown = (shown.volatile ≡ None) × IsBeginning node.parts.history shown.stored.history × stands shown.stored

abbrev pub ShowsNode : {T : Type 0} → (DurableState Definition → Type 0) → Node T → world.Node Definition → Type 0
ShowsNode stands node shown = IsNodeBy node.halted stands node shown

-- node by node, these nodes of the model
pub record AreNodes {T : Type 0} (stands : ℕ → DurableState Definition → Type 0) (nodes : List (Node T)) (shown : List (world.Node Definition)) : Type 0 where
  pub as_many : length shown ≡ length nodes
  pub node_is : (i : ℕ) (node : Node T) → slice_get nodes i ≡ Some node → (x : world.Node Definition) × (slice_get shown i ≡ Some x) × ShowsNode (stands i) node x

-- The nodes and the messages are this world.
pub record Refines {T : Type 0} (stands : ℕ → DurableState Definition → Type 0) (nodes : List (Node T)) (sent : List Message) (w : World Definition) : Type 0 where
  pub nodes_are : AreNodes stands nodes w.nodes
  pub messages : w.sent ≡ map message.view sent

-- The node at index i is node i of n.
unfoldable pub StandAmong : {T : Type 0} → ℕ → List (Node T) → Type 0
StandAmong {T} n nodes = (i : ℕ) (node : Node T) → slice_get nodes i ≡ Some node → (node.id ≡ i) × (node.n ≡ n)

-- The node at index i is node i of n, where n is the number of nodes.
abbrev pub StandInTurn : {T : Type 0} → List (Node T) → Type 0
StandInTurn nodes = StandAmong (length nodes) nodes

-- these bytes are what a crash may leave of the tape of each node whose tape failed
unfoldable pub MayLeaveOfEach : {T : Type 0} → Tape T → List (Node T) → (ℕ → List ℕ) → Type 0
MayLeaveOfEach {T} tapes nodes left = (i : ℕ) (node : Node T) → slice_get nodes i ≡ Some node → node.halted ≡ true → tapes.images node.tape (left i)

-- ---- the deliveries

-- a delivery, or a crash within one
abbrev pub IsOfMessage : Action Definition ℕ → Type 0
IsOfMessage (table.Deliver k) = ⊤
IsOfMessage (table.Propose d) = ⊥
IsOfMessage table.Retry = ⊥
IsOfMessage table.CatchUp = ⊥

abbrev pub IsDelivery : Event Definition → Type 0
IsDelivery (world.Act i action) = IsOfMessage action
IsDelivery (world.Torn i action kept) = IsOfMessage action
IsDelivery (world.Stop i) = ⊥
IsDelivery (world.Restart i) = ⊥

unfoldable pub AreDeliveries : List (Event Definition) → Type 0
AreDeliveries [] = ⊤
AreDeliveries (event ∷ events) = IsDelivery event × AreDeliveries events

-- At most `most` deliveries lead from the world to what the nodes and the messages are now.
pub record IsReachableByDeliveries {T : Type 0} (stands : ℕ → DurableState Definition → Type 0) (w : World Definition) (most : ℕ) (nodes : List (Node T)) (sent : List Message) : Type 0 where
  pub events : List (Event Definition)
  pub deliveries : AreDeliveries events
  pub at_most : length events ≤ most
  pub refines : Refines stands nodes sent (steps definition_eq w events)

-- From whatever world the nodes and the messages were, at most `most` deliveries lead to what they
-- are afterwards.
unfoldable pub ReachByDeliveries : {T : Type 0} → (ℕ → DurableState Definition → Type 0) → ℕ → List (Node T) → List Message → List (Node T) → List Message → Type 0
ReachByDeliveries stands most nodes sent nodes_after sent_after = (w : World Definition) → Refines stands nodes sent w → IsReachableByDeliveries stands w most nodes_after sent_after

-- From whatever world the nodes were, at most `most` deliveries lead to what they are afterwards,
-- with some list of messages sent.
pub record AreDelivered {T : Type 0} (stands : ℕ → DurableState Definition → Type 0) (most : ℕ) (nodes : List (Node T)) (messages : List Message) (nodes_after : List (Node T)) : Type 0 where
  pub sent : List Message
  pub reach : ReachByDeliveries stands most nodes messages nodes_after sent

-- ---- the progress of the deliveries

-- How the deliveries ended: each message sent by then was delivered to each node; or they stopped,
-- and some were left.
abbrev pub IsDeliveryEnd : Bool → PumpProgress → List Message → Type 0
IsDeliveryEnd false p sent = (p.some ≡ 0) × (p.whole ≡ length sent)
IsDeliveryEnd true p sent = p.whole < length sent

module _ {T : Type 0} (tapes : Tape T) where
  -- Message k was delivered to node i, and the node's messages were sent; or an allocation failed,
  -- and the delivery was lost.
  pub record IsHanded (i k : ℕ) (lost : Bool) (nodes : List (Node T)) (sent : List Message) (nodes_after : List (Node T)) (sent_after : List Message) : Type 0 where
    pub node : Node T
    pub after : Node T
    pub handed : Message
    pub outputs : List Message
    pub at : slice_get nodes i ≡ Some node
    pub there : slice_get sent k ≡ Some handed
    pub takes : Takes tapes lost (table.Deliver (message.view handed)) node after outputs
    pub cause : lost ≡ true → MayBeLost handed node
    pub nodes_are : nodes_after ≡ slice_set nodes i after
    pub sent_are : sent_after ≡ sent ++ outputs

  -- The messages were delivered to each node in turn, ascending, one message after the other, up to
  -- this progress: the first `whole` messages to all nodes, and the next one to the first `some`
  -- nodes. This many of the deliveries were lost.
  pub data AreHanded (nodes : List (Node T)) (messages : List Message) : PumpProgress → ℕ → List (Node T) → List Message → Type 0 where
    First : AreHanded nodes messages (record { whole = 0; some = 0; done = 0 }) 0 nodes messages
    Next : (p : PumpProgress) (lost : ℕ) (loses : Bool) (middle after : List (Node T)) (outputs more : List Message) → AreHanded nodes messages p lost middle outputs
        → IsHanded p.some p.whole loses middle outputs after more → AreHanded nodes messages (next (length nodes) p) (counted lost loses) after more

  -- `done` deliveries were made, in that order, `lost` of them were lost, and this is how they
  -- ended.
  pub record AreHandedOut (nodes : List (Node T)) (messages : List Message) (done lost : ℕ) (stopped : Bool) (nodes_after : List (Node T)) : Type 0 where
    pub come : PumpProgress
    pub sent : List Message
    pub handed : AreHanded nodes messages come lost nodes_after sent
    pub count : come.done ≡ done
    pub ended : IsDeliveryEnd stopped come sent

-- ---- one delivery, and what it leaves unchanged

-- No event, or one delivery, leads from any world that is shown to what is shown afterwards.
unfoldable pub TakeOne : {T : Type 0} → (ℕ → DurableState Definition → Type 0) → List (Node T) → List Message → List (Node T) → List Message → Type 0
TakeOne stands nodes sent nodes_after sent_after = (w : World Definition) → Refines stands nodes sent w →
    Refines stands nodes_after sent_after w ⊎ ((event : Event Definition) × IsDelivery event × Refines stands nodes_after sent_after (happens definition_eq w event))

-- no node's tape has failed
unfoldable pub NoneHalted : {T : Type 0} → List (Node T) → Type 0
NoneHalted {T} nodes = (i : ℕ) (node : Node T) → slice_get nodes i ≡ Some node → node.halted ≡ false

-- a node whose tape failed is unchanged
unfoldable pub KeepHalted : {T : Type 0} → List (Node T) → List (Node T) → Type 0
KeepHalted {T} before after = (i : ℕ) (node : Node T) → slice_get before i ≡ Some node → node.halted ≡ true → slice_get after i ≡ Some node

-- Each node's list of published maps is kept, and may have grown.
unfoldable pub EachGrows : {T : Type 0} → List (Node T) → List (Node T) → Type 0
EachGrows {T} before after = (i : ℕ) (node : Node T) → slice_get before i ≡ Some node →
    (next : Node T) × (slice_get after i ≡ Some next) × IsGrown node.parts.history next.parts.history

-- The number of nodes is unchanged and each keeps its index; each keeps what it published.
pub record KeepTurn {T : Type 0} (before after : List (Node T)) : Type 0 where
  pub as_many : length after ≡ length before
  pub in_turn : StandInTurn before → StandInTurn after
  pub lists : EachGrows before after

module _ {T : Type 0} (tapes : Tape T) where
  -- for the crate's own contracts: one delivery to one of the nodes, or none
  pub record IsOne (nodes : List (Node T)) (sent : List Message) (nodes_after : List (Node T)) (sent_after : List Message) : Type 0 where
    pub any : TakeOne AnyPart nodes sent nodes_after sent_after
    pub on_tape : tapes.durable → (left : ℕ → List ℕ) → MayLeaveOfEach tapes nodes_after left → TakeOne (StandFor left) nodes sent nodes_after sent_after
    pub halted : KeepHalted nodes nodes_after
    pub turn : KeepTurn nodes nodes_after

  -- the result of the deliveries: `done` were made
  pub record IsDelivered (nodes : List (Node T)) (messages : List Message) (done : ℕ) (nodes_after : List (Node T)) : Type 0 where
    pub any : AreDelivered AnyPart done nodes messages nodes_after
    pub on_tape : tapes.durable → (left : ℕ → List ℕ) → MayLeaveOfEach tapes nodes_after left → AreDelivered (StandFor left) done nodes messages nodes_after
    pub halted : KeepHalted nodes nodes_after
    pub turn : KeepTurn nodes nodes_after
    pub most : done ≤ most_deliveries

module _ {T : Type 0} (tapes : Tape T) where
  -- for the crate's own contracts: one delivery, as the world and the node see it
  abbrev pub IsGiven : ℕ → ℕ → Bool → List (Node T) → List Message → List (Node T) → List Message → Type 0
  IsGiven i k lost nodes sent nodes_after sent_after = IsOne tapes nodes sent nodes_after sent_after × IsHanded tapes i k lost nodes sent nodes_after sent_after

  -- for the crate's own contracts: the deliveries have come this far
  pub record ComeSoFar (nodes : List (Node T)) (messages : List Message) (p : PumpProgress) (lost : ℕ) (nodes_after : List (Node T)) (sent : List Message) : Type 0 where
    pub any : ReachByDeliveries AnyPart p.done nodes messages nodes_after sent
    pub on_tape : tapes.durable → (left : ℕ → List ℕ) → MayLeaveOfEach tapes nodes_after left → ReachByDeliveries (StandFor left) p.done nodes messages nodes_after sent
    pub halted : KeepHalted nodes nodes_after
    pub turn : KeepTurn nodes nodes_after
    pub order : AreHanded tapes nodes messages p lost nodes_after sent

-- Entries of which some were changed, one after the other, each as `keeps` says.
pub data AreChanged {E : Type 0} (keeps : E → E → Type 0) (before : List E) : List E → Type 0 where
  Unchanged : AreChanged keeps before before
  Changed : (middle : List E) (i : ℕ) (entry next : E) → AreChanged keeps before middle → slice_get middle i ≡ Some entry → keeps entry next → AreChanged keeps before (slice_set middle i next)
