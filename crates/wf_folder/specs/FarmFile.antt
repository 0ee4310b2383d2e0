-- The file `farm` of a folder, and its text.
use Rattle.std.specs.Prelude.{◌≡◌, ◌≤◌, ◌+◌, ◌/◌, ◌%◌, ◌++◌, ℕ, List, ◌∷◌, codes, length}
use Rattle.hex.specs.Hex.{IsBytes, encode_lower}
use Rattle.wf_folder.specs.declared.farm_file.Beginning.{Beginning}
use Rattle.wf_folder.specs.declared.farm_file.Beginning.TheVariants.{Empty, Found}
use Rattle.wf_folder.specs.declared.farm_file.FarmFile.{FarmFile}

-- a farm has 1 to 64 nodes
abbrev pub IsNumberOfNodes : ℕ → Type 0
IsNumberOfNodes n = (1 ≤ n) × (n ≤ 64)

-- a file `farm`: its number of nodes, and a mark of 16 bytes
pub record IsFarmFile (file : FarmFile) : Type 0 where
  pub nodes : IsNumberOfNodes file.nodes
  pub bytes : IsBytes file.mark
  pub size : length file.mark ≡ 16

-- ---- its lines: what it is and its version, the kind of its folder, how the tapes began, the
-- number of nodes in two decimal digits, and the mark in hexadecimal digits
abbrev pub first_line : List ℕ
first_line = codes "wfarm folder 1\n"

abbrev pub kind_line : List ℕ
kind_line = codes "kind serve\n"

abbrev pub beginning_line : Beginning → List ℕ
beginning_line Empty = codes "began empty\n"
beginning_line Found = codes "began found\n"

abbrev pub nodes_line : ℕ → List ℕ
nodes_line n = codes "nodes " ++ ((48 + n / 10) ∷ (48 + n % 10) ∷ codes "\n")

abbrev pub mark_line : List ℕ → List ℕ
mark_line mark = codes "mark " ++ (encode_lower mark ++ codes "\n")

-- its text
abbrev pub farm_text : FarmFile → List ℕ
farm_text file = first_line ++ (kind_line ++ (beginning_line file.beginning ++ (nodes_line file.nodes ++ mark_line file.mark)))
