-- The file `farm` of a folder that one node of a farm uses, and its text.
use Rattle.std.specs.Prelude.{◌≡◌, ◌≤◌, ◌<◌, ◌+◌, ◌/◌, ◌%◌, ◌++◌, ◌⊎◌, ℕ, List, ◌∷◌, codes, length, nat_lt, if◌then◌else◌, Option, Some, None}
use Rattle.hex.specs.Hex.{IsBytes}
use Rattle.wf_folder.specs.FarmFile.{IsNumberOfNodes, first_line, mark_line, nodes_line}
use Rattle.wf_folder.specs.Name.{IsFarmName, name_text}
use Rattle.wf_folder.specs.Number.{number_digits}
use Rattle.wf_folder.specs.Reach.{IsKnown, nothing_known, together}
use Rattle.wf_folder.specs.Suspension.{IsSuspensionOrNone}
use Rattle.wf_folder.specs.Words.{mark_then, number_then, reach_then}
use Rattle.wf_folder.specs.declared.node_file.NodeFile.{NodeFile}
use Rattle.wf_folder.specs.declared.reach.Known.{Known}
use Rattle.wf_folder.specs.declared.reach.Reach.{Reach}
use Rattle.wf_folder.specs.declared.suspension.Suspension.{Suspension}

-- the most starts that a file can count
abbrev pub last_start : ℕ
last_start = 4294967295

-- A node's file: the node is one of the farm's, which has a name, and the mark has 16 bytes.
pub record IsNodeFile (file : NodeFile) : Type 0 where
  pub nodes : IsNumberOfNodes file.nodes
  pub node : file.node < file.nodes
  pub starts : file.starts ≤ last_start
  pub reached : IsKnown file.known
  pub suspended : IsSuspensionOrNone file.suspension
  pub farm : IsFarmName file.farm
  pub bytes : IsBytes file.mark
  pub size : length file.mark ≡ 16

-- the file of the next start
abbrev pub started : NodeFile → NodeFile
started file = record file { starts = file.starts + 1 }

-- what is known, raised to how far the node is: the digest is that at the later sequence
abbrev pub raised_known : Known → Reach → List ℕ → Known
raised_known k r digest = record { reach = together k.reach r; digest = if nat_lt k.reach.published r.published then digest else k.digest }

-- ---- its lines that a serving farm's hasn't: the version and the kind of its folder, the number
-- of the node in two decimal digits, the number of starts in hexadecimal digits, what is known of
-- the node, who suspended it, if anybody did, and the farm's name. A line's end stands before what
-- follows the starts.
abbrev pub node_first_line : List ℕ
node_first_line = codes "wfarm folder 2\n"

abbrev pub kind_node_line : List ℕ
kind_node_line = codes "kind node\n"

abbrev pub node_line : ℕ → List ℕ
node_line n = codes "node " ++ ((48 + n / 10) ∷ (48 + n % 10) ∷ codes "\n")

abbrev pub starts_line : ℕ → List ℕ
starts_line n = codes "starts " ++ number_digits n

unfoldable pub known_then : Known → List ℕ → List ℕ
known_then k rest = codes "\nknown" ++ reach_then k.reach (mark_then (codes " digest ") k.digest rest)

unfoldable pub suspended_then : Option Suspension → List ℕ → List ℕ
suspended_then None rest = rest
suspended_then (Some s) rest =
    number_then (codes "\nsuspended by ") s.accuser (mark_then (codes " at ") s.address.ip (number_then (codes " port ") s.address.port (number_then (codes " cause ") s.cause rest)))

abbrev pub farm_line : List ℕ → List ℕ
farm_line name = codes "\nfarm " ++ (name_text name ++ codes "\n")

-- what follows the lines of its numbers
abbrev pub farm_and_mark : List ℕ → List ℕ → List ℕ
farm_and_mark name mark = farm_line name ++ mark_line mark

-- its numbers, and what follows
abbrev pub numbers_then : (node nodes starts : ℕ) → List ℕ → List ℕ
numbers_then node nodes starts rest = node_line node ++ (nodes_line nodes ++ (starts_line starts ++ rest))

-- who suspended it, the farm's name and the mark
abbrev pub node_end : Option Suspension → (name mark : List ℕ) → List ℕ
node_end suspension name mark = suspended_then suspension (farm_and_mark name mark)

-- what follows the line of its kind
abbrev pub node_fields : NodeFile → List ℕ
node_fields file = numbers_then file.node file.nodes file.starts (known_then file.known (node_end file.suspension file.farm file.mark))

-- its text
abbrev pub node_text : NodeFile → List ℕ
node_text file = node_first_line ++ (kind_node_line ++ node_fields file)

-- ---- version 1 says nothing of what is known, and of no suspension
abbrev pub old_node_fields : NodeFile → List ℕ
old_node_fields file = numbers_then file.node file.nodes file.starts (farm_and_mark file.farm file.mark)

abbrev pub IsOldFile : NodeFile → Type 0
IsOldFile file = (file.known ≡ nothing_known) × (file.suspension ≡ None)

-- bytes are the file's text, of this version or of the one before
abbrev pub IsTextOf : List ℕ → NodeFile → Type 0
IsTextOf bytes file = (bytes ≡ node_text file) ⊎ (IsOldFile file × (bytes ≡ first_line ++ (kind_node_line ++ old_node_fields file)))
