-- The entry of a node in the farm: which node of the model it is, and the effect of an event on it.
use Rattle.std.specs.Prelude.{◌≡◌, ℕ, ⊤, false, Option}
use Rattle.wf_farm.specs.Common.{Definition, AllStandFor, stored_of, NodeFault, TapeValue, IsImageNow, NeverFails, with_fuse}
use Rattle.wf_model.specs.World as world
use Rattle.wf_node.specs.Fault as fault
use Rattle.wf_farm.specs.declared.rejection.Rejection.{Rejection}
use Rattle.wf_farm.specs.declared.cluster.NodeHost.{NodeHost}
use Rattle.wf_farm.specs.declared.cluster.NodeHost.TheVariants.{Running, Stopped}
use Rattle.wf_farm.specs.Fault.{reported}
use Rattle.wf_farm.specs.Hosts as entries
use Rattle.wf_delivery.specs.Turn.{node_restarted}

-- the entry of a node whose tape is in memory
abbrev pub MemoryHost : Type 0
MemoryHost = NodeHost TapeValue

-- the entry is this node of the model
abbrev pub HostsNode : MemoryHost → world.Node Definition → Type 0
HostsNode host shown = entries.IsHostNode IsImageNow host shown

-- The entry has node i of n, and its tape hasn't failed.
abbrev pub IsHostOf : ℕ → ℕ → MemoryHost → Type 0
IsHostOf n i (Running node) = (node.id ≡ i) × (node.n ≡ n) × (node.halted ≡ false)
IsHostOf n i (Stopped tape) = ⊤

-- the tape in an entry
abbrev pub tape_in : MemoryHost → TapeValue
tape_in (Running node) = node.tape
tape_in (Stopped tape) = tape

-- a tape that doesn't fail still doesn't
abbrev pub KeepsSturdy : MemoryHost → MemoryHost → Type 0
KeepsSturdy before after = NeverFails (tape_in before) → NeverFails (tape_in after)

-- the entry with this failure set of its tape
abbrev pub with_fuse_in : ℕ → ℕ → MemoryHost → MemoryHost
with_fuse_in call kept (Running node) = Running (record node { tape = with_fuse call kept node.tape })
with_fuse_in call kept (Stopped tape) = Stopped (with_fuse call kept tape)

-- A node is changed so: whichever it was, `change` maps it to what it is now.
abbrev pub IsChanged : (world.Node Definition → world.Node Definition) → MemoryHost → MemoryHost → Type 0
IsChanged change before after = (node : world.Node Definition) → HostsNode before node → HostsNode after (change node)

unfoldable pub HostStays : MemoryHost → MemoryHost → Type 0
HostStays before after = IsChanged (λ node. node) before after

-- the entry still has the node that it had, of the same number of nodes
unfoldable pub KeepsMember : MemoryHost → MemoryHost → Type 0
KeepsMember before after = (n i : ℕ) → IsHostOf n i before → IsHostOf n i after

-- The node stops: its tape stands for what it stored, unless the tape had failed. A stopped node
-- stays stopped.
abbrev pub Stops : MemoryHost → MemoryHost → Type 0
Stops (Running node) after = (left : TapeValue) × (after ≡ Stopped left) × (node.halted ≡ false → AllStandFor (stored_of node) (IsImageNow left))
Stops (Stopped tape) after = after ≡ Stopped tape

-- A stopped node restarts; a running one is unchanged.
unfoldable pub Restarts : MemoryHost → MemoryHost → Type 0
Restarts before after = IsChanged node_restarted before after

-- The table's rejection that an error is; none for an allocation failure.
abbrev pub rejection_in : NodeFault → Option Rejection
rejection_in f = reported (fault.step_rejection_of f)
