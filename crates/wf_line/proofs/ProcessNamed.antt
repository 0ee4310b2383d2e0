-- From the parsed arguments to the command about a process that they ask for.
use Rattle.std.proofs.Common.{◌≡◌, ◌∙◌, ◌≤◌, ℕ, List, sym, ap, subst, codes, arith}
use Rattle.std.specs.Prelude.{Option, Some, None, option_map, IfNone}
use Rattle.std.specs.Str.{bytes_eq}
use Rattle.std.proofs.lemmas.Bool.{false≢true}
use Rattle.clap.specs.Simple.{App, HasMatchesOf, subcommand_of, subcommand_rows_of}
use Rattle.clap.specs.Walk.{Row, Text, first_of}
use Rattle.clap.specs.declared.parser.matches.ArgMatches.{ArgMatches}
use Rattle.wf_line.specs.NodeCommandLine.{IsNodeLineOf, IsNumberBy}
use Rattle.wf_line.specs.NodeLine.{IsNodeInRange, most_clients}
use Rattle.wf_line.proofs.Named.{met_is}
use Rattle.wf_line.specs.Program.{program}
use Rattle.wf_line.specs.ProcessCommandLine.{AsksProcess, IsClearOf, IsInitOf, IsNodeOf, IsReplicaOf}
use Rattle.wf_line.specs.ProcessLine.{IsProcessInRange, IsReplicaInRange}
use Rattle.wf_line.specs.ReplicaCommandLine.{IsReplicaLineOf}
use Rattle.wf_line.specs.declared.node_line.NodeCommand.TheVariants as commands
use Rattle.wf_line.specs.declared.node_line.NodeLine.{NodeLine}
use Rattle.wf_line.specs.declared.process_line.ProcessCommand.{ProcessCommand}
use Rattle.wf_line.specs.declared.process_line.ProcessCommand.TheVariants as processes
use Rattle.wf_line.specs.declared.replica_line.ReplicaLine.{ReplicaLine}
use Rattle.wf_service.specs.Service.{most_cached}

-- if a command was named and nothing of it has its arguments, they ask for nothing
init_asks_of : (p : Text × List Row) (rows : List Row) → p.1 ≡ rows → p.0 ≡ codes "init" → ((c : ProcessCommand) → ¬ (IsInitOf rows c)) → (c : ProcessCommand) → ¬ (AsksProcess (Some p) c)
init_asks_of p rows has named none (processes.Node (commands.Init line)) asks = none (processes.Node (commands.Init line)) (rw has at asks.1)
init_asks_of p rows has named none (processes.Node (commands.Node line)) asks = false≢true (sym (ap (bytes_eq (codes "init")) (sym named ∙ asks.0)))
init_asks_of p rows has named none (processes.Node (commands.Clear line)) asks = false≢true (sym (ap (bytes_eq (codes "init")) (sym named ∙ asks.0)))
init_asks_of p rows has named none (processes.Replica line) asks = false≢true (sym (ap (bytes_eq (codes "init")) (sym named ∙ asks.0)))

node_asks_of : (p : Text × List Row) (rows : List Row) → p.1 ≡ rows → p.0 ≡ codes "node" → ((c : ProcessCommand) → ¬ (IsNodeOf rows c)) → (c : ProcessCommand) → ¬ (AsksProcess (Some p) c)
node_asks_of p rows has named none (processes.Node (commands.Init line)) asks = false≢true (sym (ap (bytes_eq (codes "node")) (sym named ∙ asks.0)))
node_asks_of p rows has named none (processes.Node (commands.Node line)) asks = none (processes.Node (commands.Node line)) (rw has at asks.1)
node_asks_of p rows has named none (processes.Node (commands.Clear line)) asks = false≢true (sym (ap (bytes_eq (codes "node")) (sym named ∙ asks.0)))
node_asks_of p rows has named none (processes.Replica line) asks = false≢true (sym (ap (bytes_eq (codes "node")) (sym named ∙ asks.0)))

clear_asks_of : (p : Text × List Row) (rows : List Row) → p.1 ≡ rows → p.0 ≡ codes "clear" → ((c : ProcessCommand) → ¬ (IsClearOf rows c)) → (c : ProcessCommand) → ¬ (AsksProcess (Some p) c)
clear_asks_of p rows has named none (processes.Node (commands.Init line)) asks = false≢true (sym (ap (bytes_eq (codes "clear")) (sym named ∙ asks.0)))
clear_asks_of p rows has named none (processes.Node (commands.Node line)) asks = false≢true (sym (ap (bytes_eq (codes "clear")) (sym named ∙ asks.0)))
clear_asks_of p rows has named none (processes.Node (commands.Clear line)) asks = none (processes.Node (commands.Clear line)) (rw has at asks.1)
clear_asks_of p rows has named none (processes.Replica line) asks = false≢true (sym (ap (bytes_eq (codes "clear")) (sym named ∙ asks.0)))

replica_asks_of : (p : Text × List Row) (rows : List Row) → p.1 ≡ rows → p.0 ≡ codes "replica" → ((c : ProcessCommand) → ¬ (IsReplicaOf rows c)) → (c : ProcessCommand) → ¬ (AsksProcess (Some p) c)
replica_asks_of p rows has named none (processes.Node (commands.Init line)) asks = false≢true (sym (ap (bytes_eq (codes "replica")) (sym named ∙ asks.0)))
replica_asks_of p rows has named none (processes.Node (commands.Node line)) asks = false≢true (sym (ap (bytes_eq (codes "replica")) (sym named ∙ asks.0)))
replica_asks_of p rows has named none (processes.Node (commands.Clear line)) asks = false≢true (sym (ap (bytes_eq (codes "replica")) (sym named ∙ asks.0)))
replica_asks_of p rows has named none (processes.Replica line) asks = none (processes.Replica line) (rw has at asks.1)

pub none_made : (command : Option ProcessCommand) (met : Option (Text × List Row)) (rows : List Row) → option_map (λ p. p.1) met ≡ Some rows
    → option_map (λ p. p.0) met ≡ Some (codes "init") → IfNone command ((c : ProcessCommand) → ¬ (IsInitOf rows c)) → IfNone command ((c : ProcessCommand) → ¬ (AsksProcess met c))
none_made (Some command) met rows has named none = tt
none_made None None rows has named none = λ c asks. asks
none_made None (Some p) rows has named none = init_asks_of p rows (let is : p.1 ≡ rows = cc in is) (let is : p.0 ≡ codes "init" = cc in is) none

pub none_served : (command : Option ProcessCommand) (met : Option (Text × List Row)) (rows : List Row) → option_map (λ p. p.1) met ≡ Some rows
    → option_map (λ p. p.0) met ≡ Some (codes "node") → IfNone command ((c : ProcessCommand) → ¬ (IsNodeOf rows c)) → IfNone command ((c : ProcessCommand) → ¬ (AsksProcess met c))
none_served (Some command) met rows has named none = tt
none_served None None rows has named none = λ c asks. asks
none_served None (Some p) rows has named none = node_asks_of p rows (let is : p.1 ≡ rows = cc in is) (let is : p.0 ≡ codes "node" = cc in is) none

pub none_cleared : (command : Option ProcessCommand) (met : Option (Text × List Row)) (rows : List Row) → option_map (λ p. p.1) met ≡ Some rows
    → option_map (λ p. p.0) met ≡ Some (codes "clear") → IfNone command ((c : ProcessCommand) → ¬ (IsClearOf rows c)) → IfNone command ((c : ProcessCommand) → ¬ (AsksProcess met c))
none_cleared (Some command) met rows has named none = tt
none_cleared None None rows has named none = λ c asks. asks
none_cleared None (Some p) rows has named none = clear_asks_of p rows (let is : p.1 ≡ rows = cc in is) (let is : p.0 ≡ codes "clear" = cc in is) none

pub none_replicated : (command : Option ProcessCommand) (met : Option (Text × List Row)) (rows : List Row) → option_map (λ p. p.1) met ≡ Some rows
    → option_map (λ p. p.0) met ≡ Some (codes "replica") → IfNone command ((c : ProcessCommand) → ¬ (IsReplicaOf rows c)) → IfNone command ((c : ProcessCommand) → ¬ (AsksProcess met c))
none_replicated (Some command) met rows has named none = tt
none_replicated None None rows has named none = λ c asks. asks
none_replicated None (Some p) rows has named none = replica_asks_of p rows (let is : p.1 ≡ rows = cc in is) (let is : p.0 ≡ codes "replica" = cc in is) none

-- the numbers of the command that is asked for are in range
number_in_range : (word : Option Text) (most absent number : ℕ) → 1 ≤ absent → absent ≤ most → IsNumberBy word most absent number → (1 ≤ number) × (number ≤ most)
number_in_range None most absent number least high is = (omega (arith, is, least), omega (arith, is, high))
number_in_range (Some word) most absent number least high is = (is.low, is.high)

node_in_range : (rows : List Row) (line : NodeLine) → IsNodeLineOf rows line → IsNodeInRange line
node_in_range rows line is =
    let cache = number_in_range (first_of (codes "cache") rows) most_cached 16 line.cache (omega arith) (omega arith) is.cache in
    let clients = number_in_range (first_of (codes "clients") rows) most_clients 128 line.clients (omega arith) (omega arith) is.clients in
    record { cache = cache.0; cache_most = cache.1; clients = clients.0; clients_most = clients.1 }

replica_in_range : (rows : List Row) (line : ReplicaLine) → IsReplicaLineOf rows line → IsReplicaInRange line
replica_in_range rows line is =
    let cache = number_in_range (first_of (codes "cache") rows) most_cached 16 line.cache (omega arith) (omega arith) is.cache in
    record { cache = cache.0; cache_most = cache.1 }

pub command_in_range : (met : Option (Text × List Row)) (command : ProcessCommand) → AsksProcess met command → IsProcessInRange command
command_in_range None command asks = absurd asks
command_in_range (Some named) (processes.Node (commands.Init line)) asks = record { id = asks.1.id.2.high; some = asks.1.nodes.2.low; most = asks.1.nodes.2.high }
command_in_range (Some named) (processes.Node (commands.Node line)) asks = node_in_range named.1 line asks.1
command_in_range (Some named) (processes.Node (commands.Clear line)) asks = tt
command_in_range (Some named) (processes.Replica line) asks = replica_in_range named.1 line asks.1

-- ---- the parsed command is that of the program's rules

pub asked_of_program : (app : App) (words : List Text) (m : ArgMatches) (command : ProcessCommand) → app ≡ program → HasMatchesOf app words m → AsksProcess (subcommand_rows_of m) command →
    AsksProcess (subcommand_of program words) command
asked_of_program app words m command is has asks = subst (λ (rows : Option (Text × List Row)). AsksProcess rows command) (met_is app words m is has) asks

pub none_of_program : (app : App) (words : List Text) (m : ArgMatches) → app ≡ program → HasMatchesOf app words m → ((command : ProcessCommand) → ¬ (AsksProcess (subcommand_rows_of m) command)) →
    (command : ProcessCommand) → ¬ (AsksProcess (subcommand_of program words) command)
none_of_program app words m is has none command asks = none command (subst (λ (rows : Option (Text × List Row)). AsksProcess rows command) (sym (met_is app words m is has)) asks)
