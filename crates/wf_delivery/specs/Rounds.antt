-- Deliveries in rounds: each message, by number, to each of its targets, ascending.
use Rattle.std.specs.Prelude.{◌↔◌, ◌<◌, ◌+◌, ℕ, zero, suc, List, [], ◌∷◌, ◌++◌, take, Contains}
use Rattle.std.specs.List.Sorted.{IsStrictlyIncreasing}
use Rattle.wf_def.specs.Definition.{Definition}
use Rattle.wf_model.specs.World.{Event, deliver}

-- whether a node is among the named ones; an empty list names every node
abbrev pub IsAddressee : ℕ → List ℕ → ℕ → Type 0
IsAddressee n [] i = i < n
IsAddressee n (first ∷ rest) i = Contains (first ∷ rest) i

-- the named nodes, each once, ascending
pub record AreTargets (n : ℕ) (names targets : List ℕ) : Type 0 where
  pub ascending : IsStrictlyIncreasing targets
  pub named : (i : ℕ) → Contains targets i ↔ IsAddressee n names i

-- the deliveries of message k to each of these nodes
unfoldable pub to_each : List ℕ → ℕ → List (Event Definition)
to_each [] k = []
to_each (i ∷ nodes) k = deliver i k ∷ to_each nodes k

-- the deliveries of `count` messages from number k on, each to each of these nodes
unfoldable pub rounds : List ℕ → ℕ → ℕ → List (Event Definition)
rounds nodes k zero = []
rounds nodes k (suc count) = to_each nodes k ++ rounds nodes (suc k) count

-- whole rounds from message `first` on, then the next message to the first `some` nodes
unfoldable pub deliveries : List ℕ → ℕ → ℕ → ℕ → List (Event Definition)
deliveries nodes first whole some = rounds nodes first whole ++ to_each (take some nodes) (first + whole)
