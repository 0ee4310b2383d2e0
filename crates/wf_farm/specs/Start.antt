-- The initial nodes of a farm.
use Rattle.std.specs.Prelude.{ℕ, suc, ⊤, List, [], ◌∷◌}
use Rattle.wf_farm.specs.Common.{NeverFails}
use Rattle.wf_delivery.specs.Reachability.{fresh_node}
use Rattle.wf_farm.specs.NodeHost.{MemoryHost, HostsNode, IsHostOf, tape_in}

-- the entry has fresh node i of n, whose tape doesn't fail
abbrev pub IsFreshAt : ℕ → ℕ → MemoryHost → Type 0
IsFreshAt n i host = HostsNode host fresh_node × IsHostOf n i host × NeverFails (tape_in host)

-- from node i of n on, fresh nodes
abbrev pub AreFresh : ℕ → ℕ → List MemoryHost → Type 0
AreFresh n i [] = ⊤
AreFresh n i (host ∷ hosts) = IsFreshAt n i host × AreFresh n (suc i) hosts
