-- The number of a node, and its byte.
use Rattle.std.specs.Prelude.{ℕ, ◌<◌, List, [], ◌∷◌}

-- the most nodes of a farm
abbrev pub most_nodes : ℕ
most_nodes = 64

-- a number that a node may have
abbrev pub IsNode : ℕ → Type 0
IsNode n = n < most_nodes

-- a node in messages and records: 1 byte
abbrev pub node_bytes : ℕ → List ℕ
node_bytes n = n ∷ []
