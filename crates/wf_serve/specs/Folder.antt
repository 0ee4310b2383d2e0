-- The path of a node's tape.
use Rattle.std.specs.Prelude.{◌++◌, ℕ, List, codes, decimal}

-- the path of the tape of a node in a folder, `FOLDER/node-I.tape`
abbrev pub tape_path : List ℕ → ℕ → List ℕ
tape_path folder number = folder ++ codes "/node-" ++ decimal number ++ codes ".tape"
