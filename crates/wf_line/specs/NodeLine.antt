-- The ranges of the numbers in a command line about a node in a process of its own.
use Rattle.std.specs.Prelude.{◌≤◌, ℕ, ⊤}
use Rattle.wf_service.specs.Service.{most_cached, most_nodes}
use Rattle.wf_line.specs.declared.node_line.InitLine.{InitLine}
use Rattle.wf_line.specs.declared.node_line.NodeCommand.{NodeCommand}
use Rattle.wf_line.specs.declared.node_line.NodeCommand.TheVariants as commands
use Rattle.wf_line.specs.declared.node_line.NodeLine.{NodeLine}

-- the most clients at once
abbrev pub most_clients : ℕ
most_clients = 1024

pub record IsInitInRange (line : InitLine) : Type 0 where
  pub id : line.id ≤ 63
  pub some : 1 ≤ line.nodes
  pub most : line.nodes ≤ most_nodes

pub record IsNodeInRange (line : NodeLine) : Type 0 where
  pub cache : 1 ≤ line.cache
  pub cache_most : line.cache ≤ most_cached
  pub clients : 1 ≤ line.clients
  pub clients_most : line.clients ≤ most_clients

abbrev pub IsNodeCommandInRange : NodeCommand → Type 0
IsNodeCommandInRange (commands.Init line) = IsInitInRange line
IsNodeCommandInRange (commands.Node line) = IsNodeInRange line
IsNodeCommandInRange (commands.Clear line) = ⊤
