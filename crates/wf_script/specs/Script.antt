-- A script as contracts see it.
use Rattle.std.specs.Prelude.{◌≤◌, ℕ, List, codes, length, slice_get, Option, Some, None, string_bytes}
use Rattle.std.specs.List.{position}
use Rattle.std.specs.Option.{option_and_then}
use Rattle.wf_ballot.specs.Node.{most_nodes}
use Rattle.wf_def.specs.Definition.{Definition}
use Rattle.wf_def.specs.Equality.{definition_eq}
use Rattle.wf_script.specs.Lines.{most_lines, most_maps}
use Rattle.wf_script.specs.Order.{Order, view}
use Rattle.wf_script.specs.declared.maps.Named as maps
use Rattle.wf_script.specs.declared.order.Numbered as orders

-- an order, and the number of its line
pub record Numbered : Type 0 where
  pub line : ℕ
  pub order : Order

-- one of the code
abbrev pub numbered : orders.Numbered → Numbered
numbered n = record { line = n.line; order = view n.order }

-- How many nodes its farm has, its maps' names and definitions, and its orders with their lines,
-- all in the order of its text. An order names a map by its index among the maps. Text.antt defines
-- which text is which script.
pub record Script : Type 0 where
  pub nodes : ℕ
  pub names : List (List ℕ)
  pub maps : List Definition
  pub orders : List Numbered

-- the definition of a map with a name
abbrev pub definition : maps.Named → Definition
definition named = named.canon

-- Each of these is within its limit.
pub record IsScript (script : Script) : Type 0 where
  pub some : 1 ≤ script.nodes
  pub nodes : script.nodes ≤ most_nodes
  pub maps : length script.maps ≤ most_maps
  pub orders : length script.orders ≤ most_lines

-- ---- names

-- the first map of a script that means this
abbrev pub index_with : List Definition → Definition → Option ℕ
index_with maps d = position (λ other. definition_eq other d) maps

abbrev pub or_unknown : Option (List ℕ) → List ℕ
or_unknown None = codes "?"
or_unknown (Some name) = name

-- the name of the map that a node published, a question mark where it published none that the
-- script has
abbrev pub name_of : Script → Option Definition → List ℕ
name_of script None = codes "?"
name_of script (Some d) = or_unknown (option_and_then (slice_get script.names) (index_with script.maps d))

-- the name of a map
abbrev pub name : maps.Named → List ℕ
name named = string_bytes named.name
