-- How far a node is.
use Rattle.std.specs.Prelude.{◌≡◌, ◌≤◌, ◌⊎◌, ℕ, ⊤, length, Option, Some, None}
use Rattle.wf_ballot.specs.Sequence.{IsSlot}
use Rattle.wf_def.specs.Definition.{Definition}
use Rattle.wf_folder.specs.Reach.{IsNoLowerVote}
use Rattle.wf_folder.specs.declared.reach.HighestVote.{HighestVote}
use Rattle.wf_folder.specs.declared.reach.Reach.{Reach}
use Rattle.wf_model.specs.DurableState.{DurableState}
use Rattle.wf_model.specs.Message.{Vote}
use Rattle.wf_node.specs.Node.{Node, stored_of}

-- no vote of the node up to a sequence is above this one
abbrev pub IsHighestUpTo : DurableState Definition → ℕ → Option HighestVote → Type 0
IsHighestUpTo stored last highest =
    (s : ℕ) (vote : Vote Definition) → IsSlot s → s ≤ last → stored.votes s ≡ Some vote → IsNoLowerVote (Some (record { ballot = vote.ballot; sequence = s })) highest

-- it is one of the node's votes, if it is one
abbrev pub IsVoteOfNode : DurableState Definition → Option HighestVote → Type 0
IsVoteOfNode stored None = ⊤
IsVoteOfNode stored (Some v) = (vote : Vote Definition) × (stored.votes v.sequence ≡ Some vote) × (vote.ballot ≡ v.ballot)

-- The node's highest vote: none of its votes is above it.
pub record IsHighestVote (stored : DurableState Definition) (highest : Option HighestVote) : Type 0 where
  pub none_above : IsHighestUpTo stored 4096 highest
  pub is_vote : IsVoteOfNode stored highest

-- no vote of the node up to a sequence is at a higher one than this
abbrev pub AreVotedUpTo : DurableState Definition → ℕ → ℕ → Type 0
AreVotedUpTo stored last highest = (s : ℕ) (vote : Vote Definition) → IsSlot s → s ≤ last → stored.votes s ≡ Some vote → s ≤ highest

-- the node has a vote at it, or it is 0
abbrev pub IsVotedOrNone : DurableState Definition → ℕ → Type 0
IsVotedOrNone stored s = (s ≡ 0) ⊎ ((vote : Vote Definition) × (stored.votes s ≡ Some vote))

-- The highest sequence at which the node has a vote; 0 if it has none.
pub record IsHighestVoted (stored : DurableState Definition) (highest : ℕ) : Type 0 where
  pub none_above : AreVotedUpTo stored 4096 highest
  pub is_voted : IsVotedOrNone stored highest

-- The node has tried this round, promised this ballot, voted so, and published so far.
pub record IsReachOf {T : Type 0} (node : Node T) (reach : Reach) : Type 0 where
  pub tried : reach.round ≡ node.parts.tried
  pub promised : reach.promise ≡ node.parts.promise
  pub voted : IsHighestVote (stored_of node) reach.vote
  pub published_up_to : reach.published ≡ length node.parts.history
