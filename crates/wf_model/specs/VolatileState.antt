-- The volatile state of a running node, lost when it stops: at most one proposal, or how the last
-- one ended; and a leadership.
use Rattle.std.specs.Prelude.{ℕ, ◌+◌, Bool, true, false, List, [], ◌∷◌, Option, Some, None, ◌==◌, nat_lt, nat_le, ◌&&◌, ◌||◌, if◌then◌else◌}
use Rattle.wf_ballot.specs.Ballot.{Ballot, below}
use Rattle.wf_model.specs.Message.{Vote, first_vote}

-- a proposal first asks for promises, then for votes
pub data Phase : Type 0 where
  Preparing Accepting : Phase

-- A running proposal: its sequence and ballot, its node's own definition, the phase, the nodes
-- whose answers are counted in that phase, the best votes reported at its sequence and those after
-- it, and the highest round that a Nack reported.
pub record Proposal (V : Type 0) : Type 0 where
  pub sequence : ℕ
  pub ballot : Ballot
  pub own : V
  pub phase : Phase
  pub responders : ℕ → Bool
  pub best : List (Option (Vote V))
  pub seen : ℕ

-- no proposal yet, a running one, or how the last one ended, with its sequence: its own definition
-- was published there, or it was overtaken by another's
pub data Proposing (V : Type 0) : Type 0 where
  Idle : Proposing V
  Running : (proposal : Proposal V) → Proposing V
  Won : (sequence : ℕ) → Proposing V
  Overtaken : (sequence : ℕ) → Proposing V

-- A leadership: a majority promised the ballot for `base` and all later sequences. Of the first few
-- of them, `base` first, the best votes that this majority reported.
pub record Leadership (V : Type 0) : Type 0 where
  pub base : ℕ
  pub ballot : Ballot
  pub best : List (Option (Vote V))

-- the whole volatile state
pub record VolatileState (V : Type 0) : Type 0 where
  pub proposing : Proposing V
  pub leadership : Option (Leadership V)

-- that of a node which starts
unfoldable pub at_start : {V : Type 0} → VolatileState V
at_start = record { proposing = Idle; leadership = None }

-- the empty set of nodes, and a set with one more node
unfoldable pub nobody : ℕ → Bool
nobody i = false

unfoldable pub and_node : (ℕ → Bool) → ℕ → ℕ → Bool
and_node nodes i j = (j == i) || nodes j

-- the better of two reported votes: the one at the higher ballot, and of equal ones the first
unfoldable pub better : {V : Type 0} → Option (Vote V) → Option (Vote V) → Option (Vote V)
better None vote = vote
better (Some best) None = Some best
better (Some best) (Some vote) = if below best.ballot vote.ballot then Some vote else Some best

-- the better votes at each sequence; a list that is longer than the other goes on
unfoldable pub better_each : {V : Type 0} → List (Option (Vote V)) → List (Option (Vote V)) → List (Option (Vote V))
better_each [] votes = votes
better_each (best ∷ rest) [] = best ∷ rest
better_each (best ∷ rest) (vote ∷ votes) = better best vote ∷ better_each rest votes

-- the definition of the best reported vote, or a node's own if none was reported
unfoldable pub carried : {V : Type 0} → Option (Vote V) → V → V
carried None own = own
carried (Some best) own = best.definition

-- the definition that a proposal asks votes for
unfoldable pub proposed : {V : Type 0} → Proposal V → V
proposed proposal = carried (first_vote proposal.best) proposal.own

unfoldable pub same_ballot : Ballot → Ballot → Bool
same_ballot a b = (a.round == b.round) && (a.node == b.node)

unfoldable pub same_phase : Phase → Phase → Bool
same_phase Preparing Preparing = true
same_phase Accepting Accepting = true
same_phase Preparing Accepting = false
same_phase Accepting Preparing = false

-- whether the proposal is the one at this sequence and ballot
unfoldable pub is_at : {V : Type 0} → Proposal V → ℕ → Ballot → Bool
is_at proposal s b = (proposal.sequence == s) && same_ballot proposal.ballot b

-- the number of sequences at which a Promise reports votes, and for which a leadership asks for
-- votes: its own and the three after it
abbrev pub window : ℕ
window = 4

-- whether a leadership with this base asks for votes at the sequence without asking for promises
-- again
unfoldable pub is_in_window : ℕ → ℕ → Bool
is_in_window base s = nat_le base s && nat_lt s (base + window)

-- the leadership, if there is one and it asks for votes at the sequence
unfoldable pub leading_at : {V : Type 0} → Option (Leadership V) → ℕ → Option (Leadership V)
leading_at None s = None
leading_at (Some leadership) s = if is_in_window leadership.base s then Some leadership else None
