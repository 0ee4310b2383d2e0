-- What is read of the bytes of replacements.
use Rattle.std.specs.Prelude.{◌≡◌, ◌≢◌, ℕ, ◌-◌, Bool, true, false, List, [], ◌∷◌, length, Option, Some, None}
use Rattle.wf_peer.specs.Greeting.{AreToldOrNone, entries_from}
use Rattle.wf_rejoin.specs.declared.replacement.Replacement.{Replacement}

-- the bytes of a node's replacement, if there is one
abbrev pub entry_length : Option Replacement → ℕ
entry_length None = 0
entry_length (Some r) = 21

-- they begin with this number
abbrev pub StartsWith : ℕ → List ℕ → Type 0
StartsWith i [] = ⊥
StartsWith i (x ∷ rest) = x ≡ i

-- what is read of the last nodes, so many, if the bytes are that
abbrev pub ReadsEntries : List ℕ → ℕ → List (Option Replacement) → Bool → Type 0
ReadsEntries bytes count nodes true = (length nodes ≡ count) × AreToldOrNone nodes × (bytes ≡ entries_from (64 - count) nodes)
ReadsEntries bytes count nodes false = (others : List (Option Replacement)) → length others ≡ count → AreToldOrNone others → bytes ≢ entries_from (64 - count) others
