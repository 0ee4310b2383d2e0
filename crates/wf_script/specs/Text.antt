-- Which script a text is: its lines are read one after the other.
use Rattle.std.specs.Prelude.{◌≡◌, ◌==◌, ◌&&◌, ◌+◌, not, ℕ, Bool, List, [], ◌∷◌, ◌++◌, length, map, nat_le, nat_lt, codes, Option, Some, None, Result, Ok, Err, if◌then◌else◌}
use Rattle.std.specs.Char.{is_ascii_alphanumeric}
use Rattle.std.specs.List.{list_all}
use Rattle.std.specs.Option.{ok_or}
use Rattle.std.specs.Str.{bytes_eq}
use Rattle.wf_ballot.specs.Node.{most_nodes}
use Rattle.wf_spelling.specs.Canon.{canon, most_canon_bytes}
use Rattle.wf_def.specs.Definition.{Definition}
use Rattle.wf_mapfile.specs.Meaning.{meaning}
use Rattle.wf_script.specs.Lines.{Lines, examined, lines, most_maps, over_limit}
use Rattle.wf_script.specs.Script.{name, Numbered, Script, definition, numbered}
use Rattle.wf_script.specs.Order as order
use Rattle.wf_script.specs.Orders.{order_of, index_of}
use Rattle.wf_script.specs.ReadContract.{◌>>=◌, at_line}
use Rattle.wf_script.specs.Verb.{verb_of}
use Rattle.wf_script.specs.Words.{a_number, a_text, ends_map, is_skipped, no_word, words}
use Rattle.wf_script.specs.declared.fault.ScriptFault.{ScriptFault}
use Rattle.wf_script.specs.declared.fault.ScriptFault.TheVariants as fault
use Rattle.wf_script.specs.declared.fault.Wrong.{Wrong}
use Rattle.wf_script.specs.declared.fault.Wrong.TheVariants as wrongs
use Rattle.wf_script.specs.declared.maps.Named as maps
use Rattle.wf_script.specs.declared.order.Numbered as orders
use Rattle.wf_script.specs.declared.verb.Verb.{Verb}
use Rattle.wf_script.specs.declared.verb.Verb.TheVariants as verb

-- what was read so far: the maps' names and definitions, and the orders with their lines
pub record ScriptState : Type 0 where
  pub names : List (List ℕ)
  pub maps : List Definition
  pub orders : List Numbered

-- a map that was begun: the line where it begins, its name, and its lines so far
pub record Begun : Type 0 where
  pub line : ℕ
  pub name : List ℕ
  pub text : List ℕ

-- a map that begins at the line of this number
abbrev pub begins : ℕ → List ℕ → Begun
begins n name = record { line = n; name = name; text = [] }

-- the state that the code's parts hold
abbrev pub state : List maps.Named → List orders.Numbered → ScriptState
state named orders = record { names = map name named; maps = map definition named; orders = map numbered orders }

-- the longest name of a map, in bytes
abbrev pub most_name_bytes : ℕ
most_name_bytes = 32

-- whether a word can name a map: 1 to 32 letters and digits
unfoldable pub is_name : List ℕ → Bool
is_name word = not (length word == 0) && nat_le (length word) most_name_bytes && list_all is_ascii_alphanumeric word

-- a name that no map has yet
abbrev pub unless_there : List ℕ → Option ℕ → Result (List ℕ) Wrong
unless_there word None = Ok word
unless_there word (Some index) = Err wrongs.BadLine

unfoldable pub new_name : List (List ℕ) → List ℕ → Result (List ℕ) Wrong
new_name names word = if is_name word then unless_there word (index_of names word) else Err wrongs.BadLine

-- the name that is the last word of a line
unfoldable pub a_new_name : List (List ℕ) → List (List ℕ) → Result (List ℕ) Wrong
a_new_name names words = do
  word ← a_text words
  end ← no_word word.1
  new_name names word.0

-- what a map's text means, where its canonical text isn't too long
unfoldable pub map_of : List ℕ → Result Definition Wrong
map_of text = do
  d ← ok_or (meaning text) wrongs.BadMap
  if nat_le (length (canon d)) most_canon_bytes then Ok d else Err wrongs.BadMap

-- the map that was begun is closed: one more, where there is room
unfoldable pub closed : List ℕ → List ℕ → ScriptState → Result ScriptState Wrong
closed name text s = if nat_lt (length s.maps) most_maps then (do
  d ← map_of text
  Ok (record { names = s.names ++ name ∷ []; maps = s.maps ++ d ∷ []; orders = s.orders })) else Err wrongs.OverLimit

-- one order more, at the line of this number
unfoldable pub with_order : ℕ → ScriptState → Verb → List (List ℕ) → Result ScriptState Wrong
with_order n s verb words = do
  order ← order_of s.names verb words
  Ok (record { names = s.names; maps = s.maps; orders = s.orders ++ (record { line = n; order = order }) ∷ [] })

-- no map is begun
abbrev pub outside : {E : Type 0} → ScriptState → Result (Option Begun × ScriptState) E
outside s = Ok (None, s)

-- what the words after a verb mean, on a line of this number: a map begins, or there is an order
unfoldable pub meant_by : ℕ → ScriptState → Verb → List (List ℕ) → Result (Option Begun × ScriptState) Wrong
meant_by n s verb.Map words = do
  name ← a_new_name s.names words
  Ok (Some (begins n name), s)
meant_by n s verb words = with_order n s verb words >>= outside

unfoldable pub line_meaning : ℕ → ScriptState → List (List ℕ) → Result (Option Begun × ScriptState) Wrong
line_meaning n s words = do
  word ← a_text words
  verb ← ok_or (verb_of word.0) wrongs.BadLine
  meant_by n s verb word.1

-- What a line of this number means, outside of a map and within one. Nothing is skipped within a
-- map: each of its lines is a line of its text, followed by a line feed. An error of a map is
-- reported at the line where it begins.
unfoldable pub line_means : Option Begun → ℕ → ScriptState → List ℕ → Result (Option Begun × ScriptState) ScriptFault
line_means None n s line = if is_skipped line then outside s else at_line n (line_meaning n s (words line))
line_means (Some begun) n s line =
    if ends_map line then at_line begun.line (closed begun.name begun.text s) >>= outside
    else Ok (Some (record { line = begun.line; name = begun.name; text = begun.text ++ line ++ 10 ∷ [] }), s)

-- what the lines from this number on mean; a map that was begun has an end
unfoldable pub read_on : Option Begun → ℕ → ScriptState → List (List ℕ) → Result ScriptState ScriptFault
read_on None n s [] = Ok s
read_on (Some begun) n s [] = Err (fault.BadLine begun.line)
read_on begun n s (line ∷ rest) = line_means begun n s line >>= (λ t. read_on t.0 (n + 1) t.1 rest)

-- what the lines that are left mean
unfoldable pub on_from : Option Begun → ScriptState → Lines → Result ScriptState ScriptFault
on_from begun s ls = read_on begun (ls.number + 1) s ls.left

-- what the line that was returned means, and those that are left
unfoldable pub line_on : Option Begun → ScriptState → List ℕ → Lines → Result ScriptState ScriptFault
line_on begun s line ls = line_means begun ls.number s line >>= (λ t. on_from t.0 t.1 ls)

-- a map begins with the words after its verb, on the line that was returned, and continues in the
-- lines that are left
unfoldable pub map_on : ScriptState → List (List ℕ) → Lines → Result ScriptState ScriptFault
map_on s words ls = at_line ls.number (a_new_name s.names words) >>= (λ name. on_from (Some (begins ls.number name)) s ls)

-- how many nodes there are, 1 to 64
unfoldable pub nodes_of : List ℕ → Result ℕ Wrong
nodes_of line = do
  word ← a_text (words line)
  n ← (if bytes_eq word.0 (codes "nodes") then a_number word.1 else Err wrongs.BadLine)
  end ← no_word n.1
  if not (n.0 == 0) && nat_le n.0 most_nodes then Ok n.0 else Err wrongs.BadLine

-- The number of nodes, from the first line that isn't skipped, and the lines after that. Where
-- there is none, the first line is a bad one.
unfoldable pub head : ℕ → List (List ℕ) → Result (ℕ × Lines) ScriptFault
head n [] = Err (fault.BadLine 1)
head n (line ∷ rest) = if is_skipped line then head (n + 1) rest else at_line n (nodes_of line) >>= (λ nodes. Ok (nodes, record { number = n; left = rest }))

unfoldable pub head_from : Lines → Result (ℕ × Lines) ScriptFault
head_from ls = head (ls.number + 1) ls.left

-- nothing was read but the number of nodes
abbrev pub nothing_meant : ScriptState
nothing_meant = record { names = []; maps = []; orders = [] }

-- the script that was read, for `nodes` nodes
abbrev pub ended : ℕ → ScriptState → Result Script ScriptFault
ended nodes s = Ok (record { nodes = nodes; names = s.names; maps = s.maps; orders = s.orders })

-- what all the lines mean
unfoldable pub script : Lines → Result Script ScriptFault
script ls = do
  first ← head_from ls
  s ← on_from None nothing_meant first.1
  ended first.0 s

abbrev pub unless_over : Option ℕ → Result Script ScriptFault → Result Script ScriptFault
unless_over None meant = meant
unless_over (Some line) meant = Err (fault.OverLimit line)

-- The script that a text is, or the error for which it is none. That it is over a limit comes
-- before all else.
unfoldable pub script_of : List ℕ → Result Script ScriptFault
script_of text = unless_over (over_limit text) (script (record { number = 0; left = lines text }))

-- Of an input no more than a beginning is judged: that is judged as the whole is.
abbrev pub ExaminedAlike : Type 0
ExaminedAlike = (text : List ℕ) → script_of (examined text) ≡ script_of text
