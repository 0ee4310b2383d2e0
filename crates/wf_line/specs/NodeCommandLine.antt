-- What the arguments of `init`, `node` and `clear` ask for, by the rules of `clap`.
use Rattle.std.specs.Prelude.{◌≡◌, ℕ, option_map, Bool, List, [], ◌∷◌, Option, Some, None, false, true, codes, pos}
use Rattle.clap.specs.Walk.{Row, Rule, Text, first_of}
use Rattle.clap.specs.Simple.{Shape, new_rule, new_shape}
use Rattle.clap.specs.declared.builder.action.ArgAction.TheVariants.{SetTrue}
use Rattle.clap.specs.declared.builder.value_parser.ValueParser.TheVariants.{Signed}
use Rattle.wf_line.specs.CommandLine.{IsNumberOf, cache_rule, is_set, log_rule}
use Rattle.wf_line.specs.Line.{IsNumber}
use Rattle.wf_line.specs.NodeLine.{most_clients}
use Rattle.wf_line.specs.declared.node_line.ClearLine.{ClearLine}
use Rattle.wf_line.specs.declared.node_line.InitLine.{InitLine}
use Rattle.wf_line.specs.declared.node_line.NodeLine.{NodeLine}
use Rattle.wf_service.specs.Service.{most_cached, most_nodes}

-- `--NAME`, before anything else is said of it
abbrev pub long_rule : Text → Rule
long_rule name = record (new_rule name) { long = Some name }

-- `--NAME VALUE`: a text
abbrev pub text_rule : Text → Bool → Rule
text_rule name is_required = record (new_rule name) { long = Some name; value_names = 1; required = is_required }

-- `--id I`, `--nodes N`, `--clients K`: numbers within their ranges
abbrev pub id_rule : Rule
id_rule = record (text_rule (codes "id") true) { parser = Some (Signed (pos 0) (pos 63)) }

abbrev pub nodes_rule : Rule
nodes_rule = record (text_rule (codes "nodes") true) { parser = Some (Signed (pos 1) (pos most_nodes)) }

abbrev pub clients_rule : Rule
clients_rule = record (text_rule (codes "clients") false) { parser = Some (Signed (pos 1) (pos most_clients)) }

-- `--NAME`: a flag
abbrev pub flag_rule : Text → Rule
flag_rule name = record (new_rule name) { long = Some name; action = Some SetTrue }

-- a command with these arguments
abbrev pub command_shape : Text → List Rule → Shape
command_shape name rules = record (new_shape name) { rules = rules }

-- a command about a process of its own, with the process's folder
abbrev pub folder_shape : Text → Shape
folder_shape name = command_shape name (text_rule (codes "state") true ∷ [])

-- `init`, with the node's folder and the farm's name, with all that it wants, and whole
abbrev pub init_shape_start : Shape
init_shape_start = command_shape (codes "init") (text_rule (codes "state") true ∷ text_rule (codes "farm") true ∷ [])

abbrev pub init_shape_wanted : Shape
init_shape_wanted = command_shape (codes "init") (text_rule (codes "state") true ∷ text_rule (codes "farm") true ∷ id_rule ∷ nodes_rule ∷ [])

abbrev pub init_shape : Shape
init_shape = command_shape (codes "init")
    (text_rule (codes "state") true ∷ text_rule (codes "farm") true ∷ id_rule ∷ nodes_rule ∷ text_rule (codes "from") false
    ∷ flag_rule (codes "replace") ∷ [])

-- `node`, with its folder and the addresses of its peers, with where its clients and peers come,
-- with all its addresses, with its numbers, and whole
abbrev pub node_shape_start : Shape
node_shape_start = command_shape (codes "node") (text_rule (codes "state") true ∷ text_rule (codes "peers") true ∷ [])

abbrev pub node_shape_ports : Shape
node_shape_ports = command_shape (codes "node")
    (text_rule (codes "state") true ∷ text_rule (codes "peers") true ∷ text_rule (codes "http") true ∷ text_rule (codes "listen") false ∷ [])

abbrev pub node_shape_addresses : Shape
node_shape_addresses = command_shape (codes "node")
    (text_rule (codes "state") true ∷ text_rule (codes "peers") true ∷ text_rule (codes "http") true ∷ text_rule (codes "listen") false
    ∷ text_rule (codes "admin") false ∷ text_rule (codes "readers") false ∷ [])

abbrev pub node_shape_numbers : Shape
node_shape_numbers = command_shape (codes "node")
    (text_rule (codes "state") true ∷ text_rule (codes "peers") true ∷ text_rule (codes "http") true ∷ text_rule (codes "listen") false
    ∷ text_rule (codes "admin") false ∷ text_rule (codes "readers") false ∷ cache_rule ∷ clients_rule ∷ [])

abbrev pub node_shape : Shape
node_shape = command_shape (codes "node")
    (text_rule (codes "state") true ∷ text_rule (codes "peers") true ∷ text_rule (codes "http") true ∷ text_rule (codes "listen") false
    ∷ text_rule (codes "admin") false ∷ text_rule (codes "readers") false ∷ cache_rule ∷ clients_rule ∷ log_rule
    ∷ flag_rule (codes "replace-allowed") ∷ [])

-- `clear`
abbrev pub clear_shape : Shape
clear_shape = command_shape (codes "clear") (text_rule (codes "state") true ∷ [])

-- a number by an argument, or the one where it is absent
abbrev pub IsNumberBy : Option Text → ℕ → ℕ → ℕ → Type 0
IsNumberBy None most absent number = number ≡ absent
IsNumberBy (Some word) most absent number = IsNumber word 1 most number

abbrev pub IsNumberOr : List Row → Text → ℕ → ℕ → ℕ → Type 0
IsNumberOr rows id most absent number = IsNumberBy (first_of id rows) most absent number

-- The line is that of the arguments parsed for `init`.
pub record IsInitLineOf (rows : List Row) (line : InitLine) : Type 0 where
  pub state : first_of (codes "state") rows ≡ Some line.state.now
  pub farm : first_of (codes "farm") rows ≡ Some line.farm.now
  pub id : IsNumberOf rows (codes "id") 0 63 line.id
  pub nodes : IsNumberOf rows (codes "nodes") 1 most_nodes line.nodes
  pub from : option_map (λ s. s.now) line.from ≡ first_of (codes "from") rows
  pub replaces : line.replaces ≡ is_set (first_of (codes "replace") rows)

-- The line is that of the arguments parsed for `node`.
pub record IsNodeLineOf (rows : List Row) (line : NodeLine) : Type 0 where
  pub state : first_of (codes "state") rows ≡ Some line.state.now
  pub peers : first_of (codes "peers") rows ≡ Some line.peers.now
  pub http : first_of (codes "http") rows ≡ Some line.http.now
  pub listen : option_map (λ s. s.now) line.listen ≡ first_of (codes "listen") rows
  pub admin : option_map (λ s. s.now) line.admin ≡ first_of (codes "admin") rows
  pub readers : option_map (λ s. s.now) line.readers ≡ first_of (codes "readers") rows
  pub cache : IsNumberOr rows (codes "cache") most_cached 16 line.cache
  pub clients : IsNumberOr rows (codes "clients") most_clients 128 line.clients
  pub log : line.log ≡ is_set (first_of (codes "log") rows)
  pub may_replace : line.may_replace ≡ is_set (first_of (codes "replace-allowed") rows)

-- The line is that of the arguments parsed for `clear`.
pub record IsClearLineOf (rows : List Row) (line : ClearLine) : Type 0 where
  pub state : first_of (codes "state") rows ≡ Some line.state.now
