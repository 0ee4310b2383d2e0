-- The messages between nodes. All definitions here are generic in the type of what is agreed on,
-- `V`: the protocol doesn't depend on what a map definition is. A message names no receiver, since
-- the network may deliver any message to any node.
use Rattle.std.specs.Prelude.{ℕ, suc, List, [], ◌∷◌, Option, None, ◌==◌, if◌then◌else◌}
use Rattle.wf_ballot.specs.Ballot.{Ballot}

-- a vote for a definition, with the ballot at which it was given
pub record Vote (V : Type 0) : Type 0 where
  pub ballot : Ballot
  pub definition : V

-- The seven messages. `sender` is the node that answers, `sequence` the update sequence concerned.
-- A Promise covers its sequence and all later ones, and reports the sender's vote at each of the
-- first few of them, that at its own sequence first.
pub data Message (V : Type 0) : Type 0 where
  Prepare : (sequence : ℕ) (ballot : Ballot) → Message V
  Promise : (sender sequence : ℕ) (ballot : Ballot) (votes : List (Option (Vote V))) → Message V
  Accept : (sequence : ℕ) (ballot : Ballot) (definition : V) → Message V
  Accepted : (sender sequence : ℕ) (ballot : Ballot) → Message V
  Nack : (sender sequence : ℕ) (ballot promised : Ballot) → Message V
  Chosen : (sequence : ℕ) (definition : V) → Message V
  Ask : (sequence : ℕ) → Message V

-- ---- lists of votes: those at `base` and the sequences after it, one after the other

-- the first vote of a list, None if that sequence has none
unfoldable pub first_vote : {V : Type 0} → List (Option (Vote V)) → Option (Vote V)
first_vote [] = None
first_vote (vote ∷ rest) = vote

-- the part of a list from the vote at sequence s on
unfoldable pub from_sequence : {V : Type 0} → ℕ → List (Option (Vote V)) → ℕ → List (Option (Vote V))
from_sequence base [] s = []
from_sequence base (vote ∷ rest) s = if s == base then vote ∷ rest else from_sequence (suc base) rest s

-- the vote at sequence s
abbrev pub vote_of : {V : Type 0} → ℕ → List (Option (Vote V)) → ℕ → Option (Vote V)
vote_of base votes s = first_vote (from_sequence base votes s)
