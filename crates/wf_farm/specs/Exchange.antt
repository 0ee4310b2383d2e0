-- An exchange: a node of a farm is asked to do something, and its messages are delivered, and those
-- sent in reply.
use Rattle.std.specs.Prelude.{◌≡◌, ℕ, List, slice_get, slice_set, Some, Vec}
use Rattle.wf_farm.specs.Common.{Global, Message, Node}
use Rattle.wf_delivery.specs.declared.delivery.Pumped.{Pumped}
use Rattle.wf_farm.specs.declared.cluster.NodeHost.{NodeHost}
use Rattle.wf_farm.specs.declared.cluster.NodeHost.TheVariants.{Running}
use Rattle.wf_delivery.specs.Delivery.{AreHandedOut, IsDelivered, StandInTurn}
use Rattle.wf_delivery.specs.Reachability.{AreReachableSending}
use Rattle.wf_tape.specs.declared.tape.Tape.{Ghosts as Tape}

-- The client may ask node `number`, if it runs.
unfoldable pub IsReadyFor : {T C : Type 0} → (C → Node T → Type 0) → C → List (NodeHost T) → ℕ → Type 0
IsReadyFor {T} ready client hosts number = (node : Node T) → slice_get hosts number ≡ Some (Running node) → ready client node

-- Node `number` was asked, and sent these messages, which the client's relation tells of.
pub record IsAskedByClient {T C : Type 0} (asks : C → Node T → Vec Message Global → Node T → C → Type 0) (number : ℕ) (client : C) (nodes : List (Node T)) (outputs : Vec Message Global) (client_after : C) (nodes_after : List (Node T)) : Type 0 where
  -- the node before and after it was asked
  pub before : Node T
  pub after : Node T
  pub was : slice_get nodes number ≡ Some before
  pub is : nodes_after ≡ slice_set nodes number after
  pub asked : asks client before outputs after client_after

module _ {T : Type 0} (tapes : Tape T) where
  -- What was done to a node leads any nodes on among which it is, and sends exactly these messages.
  unfoldable pub ReachabilityGoesOn : Node T → List Message → Node T → Type 0
  ReachabilityGoesOn before outputs after = (nodes : List (Node T)) (i : ℕ) → slice_get nodes i ≡ Some before → StandInTurn nodes → AreReachableSending tapes nodes outputs (slice_set nodes i after)

  -- Node `number` was asked; and its messages were delivered to the nodes, and so were the messages
  -- that they sent in reply: each to each node, until none was left, or the deliveries stopped
  -- early.
  pub record IsExchange {C : Type 0} (asks : C → Node T → Vec Message Global → Node T → C → Type 0) (number : ℕ) (client : C) (nodes : List (Node T)) (pumped : Pumped) (client_after : C) (nodes_after : List (Node T)) : Type 0 where
    -- the node's messages, and the nodes by then
    pub outputs : Vec Message Global
    pub middle : List (Node T)
    pub asked : IsAskedByClient asks number client nodes outputs client_after middle
    pub delivered : IsDelivered tapes middle outputs.items pumped.deliveries nodes_after
    pub handed : AreHandedOut tapes middle outputs.items pumped.deliveries pumped.lost pumped.stopped nodes_after
