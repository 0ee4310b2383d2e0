-- The file `farm` of a replica's folder, and its text.
use Rattle.std.specs.Prelude.{ℕ, List, ◌++◌, codes}
use Rattle.wf_folder.specs.FarmFile.{first_line}
use Rattle.wf_folder.specs.Name.{name_text}

abbrev pub kind_replica_line : List ℕ
kind_replica_line = codes "kind replica\n"

abbrev pub farm_word : List ℕ
farm_word = codes "farm "

abbrev pub line_end : List ℕ
line_end = codes "\n"

-- three lines: what it is and its version, the kind of the folder, and the farm's name
unfoldable pub replica_text : List ℕ → List ℕ
replica_text farm = first_line ++ (kind_replica_line ++ (farm_word ++ (name_text farm ++ line_end)))
