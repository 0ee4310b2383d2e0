-- The paths of a folder's files.
use Rattle.std.specs.Prelude.{ℕ, List, ◌++◌, codes, decimal}
use Rattle.wf_store.specs.declared.file_name.FileName.{FileName}
use Rattle.wf_store.specs.declared.file_name.FileName.TheVariants.{Farm, Heard, Joins, Replaced, NodeTape, ReplicaTape}

-- the path of the tape of a node in a folder, `FOLDER/node-I.tape`
abbrev pub node_tape_path : List ℕ → ℕ → List ℕ
node_tape_path folder node = folder ++ codes "/node-" ++ decimal node ++ codes ".tape"

-- the path of a file in a folder: `FOLDER/farm`, `FOLDER/heard`, `FOLDER/joins`,
-- `FOLDER/replaced`, `FOLDER/node-I.tape`, `FOLDER/replica.tape`
abbrev pub path_in : List ℕ → FileName → List ℕ
path_in folder Farm = folder ++ codes "/farm"
path_in folder Heard = folder ++ codes "/heard"
path_in folder Joins = folder ++ codes "/joins"
path_in folder Replaced = folder ++ codes "/replaced"
path_in folder (NodeTape node) = node_tape_path folder node
path_in folder ReplicaTape = folder ++ codes "/replica.tape"
