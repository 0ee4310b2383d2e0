-- Fields of messages and records: each value has one encoding, and no encoding is a prefix of
-- another.
use Rattle.std.specs.Prelude.{◌≡◌, ℕ, ◌<◌, ◌^◌, List, ◌++◌, length, ◌∷◌}
use Rattle.wf_ballot.specs.Node.{IsNode, node_bytes}
use Rattle.wf_ballot.specs.Sequence.{IsSequence, seq_bytes}
use Rattle.wf_ballot.specs.Ballot.{Ballot, IsBallot, round_bytes, ballot_bytes}
use Rattle.std.specs.Int.{w32, to_be_bytes}

-- if the bytes of two values, each followed by other bytes, are equal, so are the values and what
-- follows
abbrev pub AreDistinct : {A : Type 0} → (A → Type 0) → (A → List ℕ) → Type 0
AreDistinct {A} IsValue bytes_of = (x y : A) (after_x after_y : List ℕ) → IsValue x → IsValue y →
    bytes_of x ++ after_x ≡ bytes_of y ++ after_y → (x ≡ y) × (after_x ≡ after_y)

-- a field's bytes determine its value
pub record FieldsAreDistinct : Type 0 where
  pub nodes : AreDistinct IsNode node_bytes
  pub sequences : AreDistinct IsSequence seq_bytes
  pub rounds : AreDistinct (λ round. round < 2 ^ 32) round_bytes
  pub ballots : AreDistinct IsBallot ballot_bytes

-- all fields of one kind have the same length
pub record FieldLengths : Type 0 where
  pub node : (n : ℕ) → length (node_bytes n) ≡ 1
  pub sequence : (s : ℕ) → length (seq_bytes s) ≡ 2
  pub round : (round : ℕ) → length (round_bytes round) ≡ 4
  pub ballot : (b : Ballot) → length (ballot_bytes b) ≡ 5

-- what messages and records have in common: a version and a kind of 1 byte each, the length of the
-- body in 4 bytes, big-endian, and the body
unfoldable pub frame : ℕ → ℕ → List ℕ → List ℕ
frame version kind body = version ∷ kind ∷ to_be_bytes w32 (length body) ++ body
