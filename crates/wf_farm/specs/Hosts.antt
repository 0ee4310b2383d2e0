-- The entries of a farm, over any kind of tape: which nodes of the model they are, and what holds
-- of each entry of every farm.
use Rattle.std.specs.Prelude.{◌≡◌, ℕ, ⊤, false, List, [], ◌∷◌, length, slice_get, Some, None}
use Rattle.wf_farm.specs.Common.{Definition, AllStandFor, stored_of, volatile_of}
use Rattle.wf_model.specs.World as world
use Rattle.wf_farm.specs.declared.cluster.NodeHost.{NodeHost}
use Rattle.wf_farm.specs.declared.cluster.NodeHost.TheVariants.{Running, Stopped}

module _ {T : Type 0} (images : T → List ℕ → Type 0) where
  -- The entry is this node of the model. A running node has both its parts. A stopped one has no
  -- volatile state, and its durable state is what its tape stands for, whatever a crash leaves of
  -- it.
  abbrev pub IsHostNode : NodeHost T → world.Node Definition → Type 0
  IsHostNode (Running node) shown = shown ≡ record { stored = stored_of node; volatile = Some (volatile_of node) }
  IsHostNode (Stopped tape) shown = (shown.volatile ≡ None) × AllStandFor shown.stored (images tape)

  -- index by index, these nodes of the model
  abbrev pub AreNodes : List (NodeHost T) → List (world.Node Definition) → Type 0
  AreNodes [] [] = ⊤
  AreNodes [] (node ∷ nodes) = ⊥
  AreNodes (host ∷ hosts) [] = ⊥
  AreNodes (host ∷ hosts) (node ∷ nodes) = IsHostNode host node × AreNodes hosts nodes

module _ {T : Type 0} (durable : Type 0) (images : T → List ℕ → Type 0) (never_fails : T → Type 0) where
  -- The entry has node i of n. a durable tape doesn't fail, so that its node isn't halted; and a
  -- crash leaves something of it.
  abbrev pub IsMember : ℕ → ℕ → NodeHost T → Type 0
  IsMember n i (Running node) = (node.id ≡ i) × (node.n ≡ n) × (durable → (node.halted ≡ false) × never_fails node.tape)
  IsMember n i (Stopped tape) = durable → never_fails tape × ((left : List ℕ) × images tape left)

  -- each entry has the node of its index
  unfoldable pub AreAtTheirIndex : List (NodeHost T) → Type 0
  AreAtTheirIndex hosts = (i : ℕ) (host : NodeHost T) → slice_get hosts i ≡ Some host → IsMember (length hosts) i host
