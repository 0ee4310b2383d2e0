-- The nodes of a farm, all of which run.
use Rattle.std.proofs.Common.{◌≡◌, ◌<◌, ◌∙◌, ℕ, List, length, slice_get, Some, None, sym, ap}
use Rattle.std.proofs.lemmas.Option.{none-some}
use Rattle.wf_farm.specs.Farm.{running_in}
use Rattle.wf_farm.specs.Nodes.{AllRun, nodes_of}
use Rattle.wf_farm.specs.NodesTheorems.{nodes_get, runs_at}
use Rattle.wf_farm.specs.declared.cluster.NodeHost.{NodeHost}
use Rattle.wf_farm.specs.declared.cluster.NodeHost.TheVariants.{Running}
use Rattle.wf_node.specs.Node.{Node}

module _ {T : Type 0} (hosts : List (NodeHost T)) (node_index : ℕ) (all : AllRun hosts) (within : node_index < length hosts) where
  -- The node that runs at an index is there.
  pub node_there : (node : Node T) → running_in (slice_get hosts node_index) ≡ Some node → slice_get (nodes_of hosts) node_index ≡ Some node
  node_there node is =
      let runs = runs_at hosts node_index all within in
      nodes_get hosts node_index (Running runs.0) runs.1 ∙ sym (ap running_in runs.1) ∙ is

  -- One does.
  pub one_there : running_in (slice_get hosts node_index) ≡ None → ⊥
  one_there none =
      let runs = runs_at hosts node_index all within in
      none-some runs.0 (sym none ∙ ap running_in runs.1)
