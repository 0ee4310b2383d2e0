-- The nodes of a farm while they are opened, one after the other, and the bytes that are read of
-- their tapes.
use Rattle.std.specs.Prelude.{◌≡◌, ℕ, false, List, slice_get, Some}
use Rattle.wf_farm.specs.declared.cluster.NodeHost.{NodeHost}
use Rattle.wf_delivery.specs.Delivery.{StandAmong}
use Rattle.wf_farm.specs.Nodes.{AllRun, nodes_from}
use Rattle.wf_model.specs.VolatileState.{at_start}
use Rattle.wf_node.specs.Images.{StandsFor}
use Rattle.wf_node.specs.Node.{Node, stored_of, volatile_of}

-- The node was opened from bytes that were read of its tape, whatever tape it is: it runs, has
-- stored what they stand for, and has no proposal and no leadership.
pub record WasRead {T : Type 0} (node : Node T) : Type 0 where
  pub bytes : List ℕ
  pub runs : node.halted ≡ false
  pub idle : volatile_of node ≡ at_start
  pub stored : StandsFor (stored_of node) bytes

-- each of the nodes was
pub record WereRead {T : Type 0} (nodes : List (Node T)) : Type 0 where
  pub each : (i : ℕ) (node : Node T) → slice_get nodes i ≡ Some node → WasRead node

-- for the crate's own contracts: the first nodes of n, which all run
pub record AreOpened {T : Type 0} (n : ℕ) (hosts : List (NodeHost T)) : Type 0 where
  pub in_turn : StandAmong n (nodes_from n 0 hosts)
  pub running : AllRun hosts
  pub read : WereRead (nodes_from n 0 hosts)
