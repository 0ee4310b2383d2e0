-- The ranges of the numbers in a command line about a process of a farm.
use Rattle.std.specs.Prelude.{◌≤◌}
use Rattle.wf_service.specs.Service.{most_cached}
use Rattle.wf_line.specs.NodeLine.{IsNodeCommandInRange}
use Rattle.wf_line.specs.declared.process_line.ProcessCommand.{ProcessCommand}
use Rattle.wf_line.specs.declared.process_line.ProcessCommand.TheVariants as processes
use Rattle.wf_line.specs.declared.replica_line.ReplicaLine.{ReplicaLine}

pub record IsReplicaInRange (line : ReplicaLine) : Type 0 where
  pub cache : 1 ≤ line.cache
  pub cache_most : line.cache ≤ most_cached

abbrev pub IsProcessInRange : ProcessCommand → Type 0
IsProcessInRange (processes.Node command) = IsNodeCommandInRange command
IsProcessInRange (processes.Replica line) = IsReplicaInRange line
