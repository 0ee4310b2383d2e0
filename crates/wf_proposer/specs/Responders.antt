-- The nodes whose answers are counted, as a set: a number, of which each bit is a node.
use Rattle.std.specs.Prelude.{ℕ, Bool, ◌==◌}
use Rattle.std.specs.Int.{bit_at}
use Rattle.wf_ballot.specs.Majority.{count_nodes, is_majority_of}

-- whether node i is among the nodes of the mask: bit i, counted from the lowest, is 1
unfoldable pub among : ℕ → ℕ → Bool
among mask i = bit_at mask i == 1

-- whether the nodes of the mask are a majority of nodes 0 to n - 1
abbrev pub are_majority : ℕ → ℕ → Bool
are_majority n mask = is_majority_of (count_nodes n (among mask)) n
