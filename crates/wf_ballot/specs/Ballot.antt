-- A ballot's model, the order of ballots, and a ballot's bytes.
use Rattle.std.specs.Prelude.{◌≡◌, ℕ, ◌≤◌, Bool, true, false, ◌==◌, nat_lt, ◌&&◌, ◌||◌, List, ◌++◌, codes}
use Rattle.std.specs.Int.{w32, to_be_bytes}
use Rattle.std.specs.Fmt.{decimal}
use Rattle.wf_ballot.specs.Node.{IsNode, node_bytes}

-- one attempt of one node: the round, counted from 1, and the node
pub record Ballot : Type 0 where
  pub round : ℕ
  pub node : ℕ

-- the first ballot is below the second: by round, then by node
unfoldable pub below : Ballot → Ballot → Bool
below a b = nat_lt a.round b.round || ((a.round == b.round) && nat_lt a.node b.node)

-- this order of ballots is total
pub record OrderIsTotal : Type 0 where
  pub irreflexive : (a : Ballot) → below a a ≡ false
  pub transitive : (a b c : Ballot) → below a b ≡ true → below b c ≡ true → below a c ≡ true
  pub total : (a b : Ballot) → below a b ≡ false → below b a ≡ false → a ≡ b

-- the last round
abbrev pub last_round : ℕ
last_round = 4294967295

-- numbers that a ballot may have
pub record IsBallot (b : Ballot) : Type 0 where
  pub from_one : 1 ≤ b.round
  pub to_last : b.round ≤ last_round
  pub by_node : IsNode b.node

-- a round in messages and records: 4 bytes, big-endian
unfoldable pub round_bytes : ℕ → List ℕ
round_bytes round = to_be_bytes w32 round

-- a ballot in messages and records: its round, then its node
unfoldable pub ballot_bytes : Ballot → List ℕ
ballot_bytes b = round_bytes b.round ++ node_bytes b.node

-- a ballot as it is printed, such as (2, 1)
abbrev pub ballot_text : Ballot → List ℕ
ballot_text b = codes "(" ++ decimal b.round ++ codes ", " ++ decimal b.node ++ codes ")"

-- numbers that a round may have; round 0 means that a node hasn't made an attempt yet
pub record IsRound (round : ℕ) : Type 0 where
  pub from_one : 1 ≤ round
  pub to_last : round ≤ last_round
