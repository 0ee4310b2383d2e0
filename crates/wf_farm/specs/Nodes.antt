-- The entries of a farm as a list of nodes: what is defined of nodes that a caller holds is so of
-- the nodes of a farm.
use Rattle.std.specs.Prelude.{◌≡◌, ℕ, suc, true, List, [], ◌∷◌, length, slice_get, Some, None}
use Rattle.std.specs.FinMap as map
use Rattle.wf_farm.specs.Common.{Node}
use Rattle.wf_node.specs.Parts.{Parts}
use Rattle.wf_node.specs.VolatileState.{VolatileState, Idle}
use Rattle.wf_farm.specs.declared.cluster.NodeHost.{NodeHost}
use Rattle.wf_farm.specs.declared.cluster.NodeHost.TheVariants.{Running, Stopped}
use Rattle.wf_farm.specs.Farm.{Farm}
use Rattle.wf_farm.specs.Hosts.{AreAtTheirIndex, IsMember}
use Rattle.wf_tape.specs.declared.tape.Tape.{Ghosts as Tape}

-- what a stopped node shows: nothing stored, and no proposal or leadership
abbrev pub no_parts : Parts
no_parts = record { tried = 0; promise = None; votes = map.empty; history = [] }

abbrev pub no_volatile : VolatileState
no_volatile = record { proposing = Idle; leadership = None }

-- The entry as node i of n. A stopped node accepts no step, as one that is halted, and shows
-- nothing of what is on its tape.
abbrev pub node_in : {T : Type 0} → ℕ → ℕ → NodeHost T → Node T
node_in n i (Running node) = node
node_in n i (Stopped tape) = record { tape = tape; halted = true; failed = None; id = i; n = n; parts = no_parts; volatile = no_volatile }

-- the entries as nodes of n, from node i on
unfoldable pub nodes_from : {T : Type 0} → ℕ → ℕ → List (NodeHost T) → List (Node T)
nodes_from n i [] = []
nodes_from n i (host ∷ hosts) = node_in n i host ∷ nodes_from n (suc i) hosts

-- all entries of a farm as nodes, and all nodes of a farm
abbrev pub nodes_of : {T : Type 0} → List (NodeHost T) → List (Node T)
nodes_of hosts = nodes_from (length hosts) 0 hosts

abbrev pub nodes_in : {T : Type 0} → Farm T → List (Node T)
nodes_in farm = nodes_of farm.hosts

-- A node that runs still does; a stopped one is unchanged.
abbrev pub KeepsHost : {T : Type 0} → NodeHost T → NodeHost T → Type 0
KeepsHost {T} (Running node) next = (after : Node T) × (next ≡ Running after)
KeepsHost (Stopped tape) next = next ≡ Stopped tape

unfoldable pub KeepHosts : {T : Type 0} → List (NodeHost T) → List (NodeHost T) → Type 0
KeepHosts {T} before after = (i : ℕ) (host : NodeHost T) → slice_get before i ≡ Some host → (next : NodeHost T) × (slice_get after i ≡ Some next) × KeepsHost host next

-- node i runs; a node whose tape failed does, and is halted
abbrev pub RunsAt : {T : Type 0} → List (NodeHost T) → ℕ → Type 0
RunsAt {T} hosts i = (node : Node T) × (slice_get hosts i ≡ Some (Running node))

-- every node runs
unfoldable pub AllRun : {T : Type 0} → List (NodeHost T) → Type 0
AllRun {T} hosts = (i : ℕ) (host : NodeHost T) → slice_get hosts i ≡ Some host → (node : Node T) × (host ≡ Running node)

-- ---- for the crate's own contracts: entries over any kind of tape

module _ {T : Type 0} (tapes : Tape T) where
  -- An entry that may have changed has the node that it had, and runs if it did.
  pub record KeepsEntry (host next : NodeHost T) : Type 0 where
    pub member : (n i : ℕ) → IsMember tapes.durable tapes.images tapes.never_fails n i host → IsMember tapes.durable tapes.images tapes.never_fails n i next
    pub kept : KeepsHost host next

  -- So have as many entries as before.
  pub record KeepEntries (before after : List (NodeHost T)) : Type 0 where
    pub as_many : length after ≡ length before
    pub members : AreAtTheirIndex tapes.durable tapes.images tapes.never_fails before → AreAtTheirIndex tapes.durable tapes.images tapes.never_fails after
    pub kept : KeepHosts before after
