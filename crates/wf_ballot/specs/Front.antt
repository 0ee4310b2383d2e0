-- A field at the front of bytes: its value and the bytes after it, None if no such field is there.
use Rattle.std.specs.Prelude.{◌≡◌, ℕ, ◌<◌, ◌&&◌, nat_lt, nat_le, List, [], ◌∷◌, ◌++◌, slice_index, Option, Some, None, if◌then◌else◌}
use Rattle.std.specs.Int.{w16, w32, from_be_bytes}
use Rattle.wf_ballot.specs.Node.{most_nodes, IsNode, node_bytes}
use Rattle.wf_ballot.specs.Sequence.{IsSlot, last_sequence, seq_bytes}
use Rattle.wf_ballot.specs.Ballot.{IsRound, Ballot, IsBallot, round_bytes, ballot_bytes}

unfoldable pub front_node : List ℕ → Option (ℕ × List ℕ)
front_node [] = None
front_node (node ∷ rest) = if nat_lt node most_nodes then Some (node, rest) else None

unfoldable pub front_slot : List ℕ → Option (ℕ × List ℕ)
front_slot (a ∷ b ∷ rest) =
    let s = from_be_bytes w16 (a ∷ b ∷ []) in
    if nat_le 1 s && nat_le s last_sequence then Some (s, rest) else None
front_slot _ = None

unfoldable pub front_round : List ℕ → Option (ℕ × List ℕ)
front_round (a ∷ b ∷ c ∷ d ∷ rest) =
    let round = from_be_bytes w32 (a ∷ b ∷ c ∷ d ∷ []) in
    if nat_le 1 round then Some (round, rest) else None
front_round _ = None

unfoldable pub front_ballot : List ℕ → Option (Ballot × List ℕ)
front_ballot (a ∷ b ∷ c ∷ d ∷ node ∷ rest) =
    let round = from_be_bytes w32 (a ∷ b ∷ c ∷ d ∷ []) in
    if nat_le 1 round && nat_lt node most_nodes then Some (record { round = round; node = node }, rest) else None
front_ballot _ = None

-- Each number is a byte.
abbrev pub AreBytes : List ℕ → Type 0
AreBytes bytes = (i : ℕ) → slice_index bytes i < 256

-- A field is read at the front iff the bytes begin with it.
pub record ReadsFront {A : Type 0} (IsValue : A → Type 0) (bytes_of : A → List ℕ) (front : List ℕ → Option (A × List ℕ)) : Type 0 where
  pub stands : (bytes rest : List ℕ) (x : A) → AreBytes bytes → front bytes ≡ Some (x, rest) → (bytes ≡ bytes_of x ++ rest) × IsValue x
  pub read : (x : A) (rest : List ℕ) → IsValue x → front (bytes_of x ++ rest) ≡ Some (x, rest)

-- each field is read at the front of bytes
pub record FieldsAreRead : Type 0 where
  pub nodes : ReadsFront IsNode node_bytes front_node
  pub slots : ReadsFront IsSlot seq_bytes front_slot
  pub ballots : ReadsFront IsBallot ballot_bytes front_ballot
  pub rounds : ReadsFront IsRound round_bytes front_round
