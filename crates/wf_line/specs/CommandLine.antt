-- What the arguments of a command line ask for, by the rules of `clap`.
use Rattle.std.specs.Prelude.{◌≡◌, ℕ, ℤ, if◌then◌else◌, option_map, Bool, List, [], ◌∷◌, Option, Some, None, false, true, codes, pos}
use Rattle.clap.specs.Matches.{found_of}
use Rattle.clap.specs.Walk.{Row, Rule, Text, first_of, rows_of}
use Rattle.clap.specs.Simple.{Shape, new_rule, new_shape, shape_of}
use Rattle.clap.specs.declared.builder.command.Command.{Command}
use Rattle.clap.specs.declared.builder.command.Command.TheViews.{out-Command}
use Rattle.clap.specs.declared.parser.matches.ArgMatches.{ArgMatches}
use Rattle.clap.specs.declared.builder.action.ArgAction.TheVariants.{SetTrue}
use Rattle.clap.specs.declared.builder.value_parser.ValueParser.TheVariants.{Signed}
use Rattle.std.specs.Str.{bytes_eq}
use Rattle.wf_ballot.specs.Sequence.{last_sequence}
use Rattle.wf_line.specs.Line.{IsNumber, SpellsSequence}
use Rattle.wf_line.specs.declared.command_line.Line.{Line}
use Rattle.wf_service.specs.Service.{last_port, most_nodes, most_requests}
use Rattle.wf_service.specs.declared.service.Service.{Service}
use Rattle.wf_line.specs.declared.command_line.Line.TheVariants as lines
use Rattle.wf_line.specs.declared.command_line.Format.{Format}
use Rattle.wf_line.specs.declared.command_line.Format.TheVariants as formats
use Rattle.wf_service.specs.Service.{most_cached}

-- ---- the arguments that the program takes

-- SEQ: a required number from 0 to the last update sequence
abbrev pub sequence_rule : Rule
sequence_rule = record (new_rule (codes "SEQ")) {
  value_names = 1;
  parser = Some (Signed (pos 0) (pos last_sequence));
  required = true;
}

-- NAME: a required text
abbrev pub word_rule : Text → Rule
word_rule name = record (new_rule name) { required = true }

-- QUERY: a required text
abbrev pub query_rule : Rule
query_rule = word_rule (codes "QUERY")

-- `--NAME VALUE`: a number from `least` to `most`
abbrev pub number_rule : Text → (least most : ℤ) → Bool → Rule
number_rule name least most is_required = record (new_rule name) { long = Some name; value_names = 1; parser = Some (Signed least most); required = is_required }

-- `caps SEQ QUERY`
abbrev pub caps_shape : Shape
caps_shape = record (new_shape (codes "caps")) { rules = sequence_rule ∷ query_rule ∷ [] }

-- `draw QUERY`
abbrev pub draw_shape : Shape
draw_shape = record (new_shape (codes "draw")) { rules = query_rule ∷ [] }

-- FILE: a required text
abbrev pub file_rule : Rule
file_rule = word_rule (codes "FILE")

-- `--map S`: a number from 1 to the last update sequence
abbrev pub map_rule : Rule
map_rule = record (new_rule (codes "map")) { long = Some (codes "map"); value_names = 1; parser = Some (Signed (pos 1) (pos last_sequence)) }

-- `tape FILE --map S`
abbrev pub tape_shape : Shape
tape_shape = record (new_shape (codes "tape")) { rules = file_rule ∷ map_rule ∷ [] }

-- `canon`
abbrev pub canon_shape : Shape
canon_shape = new_shape (codes "canon")

-- `--format FORMAT`: a text
abbrev pub format_rule : Rule
format_rule = record (new_rule (codes "format")) { long = Some (codes "format"); value_names = 1 }

-- `check --format FORMAT`
abbrev pub check_shape : Shape
check_shape = record (new_shape (codes "check")) { rules = format_rule ∷ [] }

-- `run`
abbrev pub run_shape : Shape
run_shape = new_shape (codes "run")

-- `wire`
abbrev pub wire_shape : Shape
wire_shape = new_shape (codes "wire")

-- `--nodes N`, `--port P`, `--requests K`: required numbers within their ranges
abbrev pub nodes_rule : Rule
nodes_rule = record (new_rule (codes "nodes")) {
  long = Some (codes "nodes");
  value_names = 1;
  parser = Some (Signed (pos 1) (pos most_nodes));
  required = true;
}

abbrev pub port_rule : Rule
port_rule = record (new_rule (codes "port")) {
  long = Some (codes "port");
  value_names = 1;
  parser = Some (Signed (pos 0) (pos last_port));
  required = true;
}

abbrev pub requests_rule : Rule
requests_rule = record (new_rule (codes "requests")) {
  long = Some (codes "requests");
  value_names = 1;
  parser = Some (Signed (pos 0) (pos most_requests));
  required = true;
}

-- `--cache C`: a number within its range
abbrev pub cache_rule : Rule
cache_rule = record (new_rule (codes "cache")) { long = Some (codes "cache"); value_names = 1; parser = Some (Signed (pos 1) (pos most_cached)) }

-- `--state DIR`: a text
abbrev pub state_rule : Rule
state_rule = record (new_rule (codes "state")) { long = Some (codes "state"); value_names = 1 }

-- `--log`: a flag
abbrev pub log_rule : Rule
log_rule = record (new_rule (codes "log")) { long = Some (codes "log"); action = Some SetTrue }

-- `serve`, with the number of its nodes
abbrev pub serve_shape_start : Shape
serve_shape_start = record (new_shape (codes "serve")) { rules = nodes_rule ∷ [] }

-- `serve`, without its optional arguments
abbrev pub required_serve_shape : Shape
required_serve_shape = record (new_shape (codes "serve")) { rules = nodes_rule ∷ port_rule ∷ requests_rule ∷ [] }

-- `serve`
abbrev pub serve_shape : Shape
serve_shape = record (new_shape (codes "serve")) { rules = nodes_rule ∷ port_rule ∷ requests_rule ∷ cache_rule ∷ state_rule ∷ log_rule ∷ [] }

-- ---- the commands as they are built

-- the command has this shape, and no argument that is its subcommands' too
abbrev pub IsOfShape : Shape → Command → Type 0
IsOfShape shape command = (shape_of command ≡ shape) × ((out-Command command).has_globals ≡ false)

-- ---- the line that is asked for

-- the arguments parsed for a command, each with its name
abbrev pub rows_in : ArgMatches → List Row
rows_in found = rows_of (found_of found)

-- The line is `caps` with the number that an argument spells, and this query.
abbrev pub IsCapsLine : Text → Text → Line → Type 0
IsCapsLine word query (lines.Caps seq asked) = SpellsSequence word seq × (asked.now ≡ query)
IsCapsLine word query (lines.Draw asked) = ⊥
IsCapsLine word query lines.Canon = ⊥
IsCapsLine word query (lines.Check format) = ⊥
IsCapsLine word query (lines.Tape file map) = ⊥
IsCapsLine word query lines.Run = ⊥
IsCapsLine word query lines.Wire = ⊥
IsCapsLine word query (lines.Serve service) = ⊥

-- The line is `caps` with the arguments parsed for SEQ and QUERY.
abbrev pub IsCapsOf : List Row → Line → Type 0
IsCapsOf rows line = (word query : Text) × (first_of (codes "SEQ") rows ≡ Some word) × (first_of (codes "QUERY") rows ≡ Some query)
    × IsCapsLine word query line

-- The line is `draw` with this query.
abbrev pub IsDrawLine : Text → Line → Type 0
IsDrawLine query (lines.Caps seq asked) = ⊥
IsDrawLine query (lines.Draw asked) = asked.now ≡ query
IsDrawLine query lines.Canon = ⊥
IsDrawLine query (lines.Check format) = ⊥
IsDrawLine query (lines.Tape file map) = ⊥
IsDrawLine query lines.Run = ⊥
IsDrawLine query lines.Wire = ⊥
IsDrawLine query (lines.Serve service) = ⊥

-- The line is `draw` with the argument parsed for QUERY.
abbrev pub IsDrawOf : List Row → Line → Type 0
IsDrawOf rows line = (query : Text) × (first_of (codes "QUERY") rows ≡ Some query) × IsDrawLine query line

-- the sequence of the map that is asked for, by an argument if there is one
abbrev pub IsMapBy : Option Text → Option ℕ → Type 0
IsMapBy None map = map ≡ None
IsMapBy (Some word) map = (seq : ℕ) × (map ≡ Some seq) × IsNumber word 1 last_sequence seq

-- the same by the parsed arguments
abbrev pub IsMapOption : List Row → Option ℕ → Type 0
IsMapOption rows map = IsMapBy (first_of (codes "map") rows) map

-- The line is `tape` with this file, and the map that an argument asks for if there is one.
abbrev pub IsTapeLine : Text → Option Text → Line → Type 0
IsTapeLine file word (lines.Caps seq query) = ⊥
IsTapeLine file word (lines.Draw query) = ⊥
IsTapeLine file word lines.Canon = ⊥
IsTapeLine file word (lines.Check format) = ⊥
IsTapeLine file word (lines.Tape asked map) = (asked.now ≡ file) × IsMapBy word map
IsTapeLine file word lines.Run = ⊥
IsTapeLine file word lines.Wire = ⊥
IsTapeLine file word (lines.Serve service) = ⊥

-- The line is `tape` with the arguments parsed for FILE and `--map`.
abbrev pub IsTapeOption : List Row → Line → Type 0
IsTapeOption rows line = (file : Text) × (first_of (codes "FILE") rows ≡ Some file) × IsTapeLine file (first_of (codes "map") rows) line

-- the format that a word names
abbrev pub format_named : Text → Option Format
format_named word = if bytes_eq word (codes "text") then Some formats.Text else if bytes_eq word (codes "json") then Some formats.Json else None

-- the format of a report, by an argument if there is one
abbrev pub format_by : Option Text → Option Format
format_by None = Some formats.Text
format_by (Some word) = format_named word

-- The line is `check` with the format that an argument asks for if there is one.
abbrev pub IsCheckBy : Option Text → Line → Type 0
IsCheckBy word (lines.Caps seq query) = ⊥
IsCheckBy word (lines.Draw query) = ⊥
IsCheckBy word lines.Canon = ⊥
IsCheckBy word (lines.Check format) = format_by word ≡ Some format
IsCheckBy word (lines.Tape file map) = ⊥
IsCheckBy word lines.Run = ⊥
IsCheckBy word lines.Wire = ⊥
IsCheckBy word (lines.Serve service) = ⊥

-- The line is `check` with the argument parsed for `--format`.
abbrev pub IsCheckAsked : List Row → Line → Type 0
IsCheckAsked rows line = IsCheckBy (first_of (codes "format") rows) line

-- the argument parsed for a number spells it
abbrev pub IsNumberOf : List Row → Text → ℕ → ℕ → ℕ → Type 0
IsNumberOf rows id least most number = (word : Text) × (first_of id rows ≡ Some word) × IsNumber word least most number

-- the number of pictures that each node keeps by default
abbrev pub default_cache : ℕ
default_cache = 16

-- the number of pictures to keep, by an argument if there is one
abbrev pub IsCacheBy : Option Text → ℕ → Type 0
IsCacheBy None cached = cached ≡ default_cache
IsCacheBy (Some word) cached = IsNumber word 1 most_cached cached

-- the same by the parsed arguments
abbrev pub IsCacheOf : List Row → ℕ → Type 0
IsCacheOf rows cached = IsCacheBy (first_of (codes "cache") rows) cached

-- the argument parsed for a flag says that it was given
abbrev pub is_set : Option Text → Bool
is_set None = false
is_set (Some word) = bytes_eq word (codes "true")

-- The service is that of the parsed arguments.
pub record IsServiceOf (rows : List Row) (service : Service) : Type 0 where
  pub nodes : IsNumberOf rows (codes "nodes") 1 most_nodes service.nodes
  pub port : IsNumberOf rows (codes "port") 0 last_port service.port
  pub requests : IsNumberOf rows (codes "requests") 0 most_requests service.requests
  pub cache : IsCacheOf rows service.cache
  pub state : option_map (λ s. s.now) service.state ≡ first_of (codes "state") rows
  pub log : service.log ≡ is_set (first_of (codes "log") rows)

-- The line is `serve` with the service of the parsed arguments.
abbrev pub IsServeOf : List Row → Line → Type 0
IsServeOf rows (lines.Caps seq query) = ⊥
IsServeOf rows (lines.Draw query) = ⊥
IsServeOf rows lines.Canon = ⊥
IsServeOf rows (lines.Check format) = ⊥
IsServeOf rows (lines.Tape file map) = ⊥
IsServeOf rows lines.Run = ⊥
IsServeOf rows lines.Wire = ⊥
IsServeOf rows (lines.Serve service) = IsServiceOf rows service

-- the named command with its arguments asks for the line
abbrev pub Asks : Option (Text × List Row) → Line → Type 0
Asks None line = ⊥
Asks (Some named) (lines.Caps seq query) = (named.0 ≡ codes "caps") × IsCapsOf named.1 (lines.Caps seq query)
Asks (Some named) (lines.Draw query) = (named.0 ≡ codes "draw") × IsDrawOf named.1 (lines.Draw query)
Asks (Some named) lines.Canon = named.0 ≡ codes "canon"
Asks (Some named) (lines.Check format) = (named.0 ≡ codes "check") × IsCheckAsked named.1 (lines.Check format)
Asks (Some named) (lines.Tape file map) = (named.0 ≡ codes "tape") × IsTapeOption named.1 (lines.Tape file map)
Asks (Some named) lines.Run = named.0 ≡ codes "run"
Asks (Some named) lines.Wire = named.0 ≡ codes "wire"
Asks (Some named) (lines.Serve service) = (named.0 ≡ codes "serve") × IsServeOf named.1 (lines.Serve service)
