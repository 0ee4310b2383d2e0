-- What the arguments of a command line about a process of a farm ask for, by the rules of `clap`.
use Rattle.std.specs.Prelude.{◌≡◌, if◌then◌else◌, Bool, List, [], ◌∷◌, Option, Some, None, false, true, codes}
use Rattle.clap.specs.Walk.{Row, Text}
use Rattle.std.specs.Str.{bytes_eq}
use Rattle.wf_line.specs.NodeCommandLine.{IsClearLineOf, IsInitLineOf, IsNodeLineOf}
use Rattle.wf_line.specs.ReplicaCommandLine.{IsReplicaLineOf}
use Rattle.wf_line.specs.declared.node_line.NodeCommand.TheVariants as commands
use Rattle.wf_line.specs.declared.process_line.ProcessCommand.{ProcessCommand}
use Rattle.wf_line.specs.declared.process_line.ProcessCommand.TheVariants as processes

-- ---- which command lines these are

abbrev pub is_process_command : Text → Bool
is_process_command word =
    if bytes_eq word (codes "init") then true
    else if bytes_eq word (codes "node") then true
    else if bytes_eq word (codes "clear") then true
    else bytes_eq word (codes "replica")

abbrev pub begins_with_process_command : List Text → Bool
begins_with_process_command [] = false
begins_with_process_command (first ∷ rest) = is_process_command first

-- `init`, `node`, `clear` or `replica` comes first, or first after `help`
abbrev pub names_process_command : List Text → Bool
names_process_command [] = false
names_process_command (first ∷ rest) = if bytes_eq first (codes "help") then begins_with_process_command rest else is_process_command first

-- ---- the command that is asked for

abbrev pub IsInitOf : List Row → ProcessCommand → Type 0
IsInitOf rows (processes.Node (commands.Init line)) = IsInitLineOf rows line
IsInitOf rows (processes.Node (commands.Node line)) = ⊥
IsInitOf rows (processes.Node (commands.Clear line)) = ⊥
IsInitOf rows (processes.Replica line) = ⊥

abbrev pub IsNodeOf : List Row → ProcessCommand → Type 0
IsNodeOf rows (processes.Node (commands.Init line)) = ⊥
IsNodeOf rows (processes.Node (commands.Node line)) = IsNodeLineOf rows line
IsNodeOf rows (processes.Node (commands.Clear line)) = ⊥
IsNodeOf rows (processes.Replica line) = ⊥

abbrev pub IsClearOf : List Row → ProcessCommand → Type 0
IsClearOf rows (processes.Node (commands.Init line)) = ⊥
IsClearOf rows (processes.Node (commands.Node line)) = ⊥
IsClearOf rows (processes.Node (commands.Clear line)) = IsClearLineOf rows line
IsClearOf rows (processes.Replica line) = ⊥

abbrev pub IsReplicaOf : List Row → ProcessCommand → Type 0
IsReplicaOf rows (processes.Node command) = ⊥
IsReplicaOf rows (processes.Replica line) = IsReplicaLineOf rows line

-- the named command with its arguments asks for this
abbrev pub AsksProcess : Option (Text × List Row) → ProcessCommand → Type 0
AsksProcess None command = ⊥
AsksProcess (Some named) (processes.Node (commands.Init line)) = (named.0 ≡ codes "init") × IsInitLineOf named.1 line
AsksProcess (Some named) (processes.Node (commands.Node line)) = (named.0 ≡ codes "node") × IsNodeLineOf named.1 line
AsksProcess (Some named) (processes.Node (commands.Clear line)) = (named.0 ≡ codes "clear") × IsClearLineOf named.1 line
AsksProcess (Some named) (processes.Replica line) = (named.0 ≡ codes "replica") × IsReplicaLineOf named.1 line
