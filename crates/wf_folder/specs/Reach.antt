-- How far a node is, and what of that is higher.
use Rattle.std.specs.Prelude.{◌≡◌, ℕ, ◌≤◌, ◌<◌, ◌^◌, Bool, false, ◌&&◌, ◌||◌, not, nat_lt, max, if◌then◌else◌, length, replicate, Option, Some, None}
use Rattle.hex.specs.Hex.{IsBytes}
use Rattle.wf_ballot.specs.Ballot.{Ballot, IsBallot, below}
use Rattle.wf_ballot.specs.Sequence.{IsSequence, IsSlot}
use Rattle.wf_model.specs.DurableState.{raised}
use Rattle.wf_folder.specs.declared.reach.HighestVote.{HighestVote}
use Rattle.wf_folder.specs.declared.reach.Known.{Known}
use Rattle.wf_folder.specs.declared.reach.Reach.{Reach}

-- ---- their ranges

-- a promise is a ballot, or there is none; and so a vote
abbrev pub IsPromise : Option Ballot → Type 0
IsPromise None = Unit {0}
IsPromise (Some ballot) = IsBallot ballot

pub record IsVote (v : HighestVote) : Type 0 where
  pub of_ballot : IsBallot v.ballot
  pub of_slot : IsSlot v.sequence

abbrev pub IsVoteOrNone : Option HighestVote → Type 0
IsVoteOrNone None = Unit {0}
IsVoteOrNone (Some v) = IsVote v

pub record IsReach (r : Reach) : Type 0 where
  pub of_round : r.round < 2 ^ 32
  pub of_promise : IsPromise r.promise
  pub of_vote : IsVoteOrNone r.vote
  pub of_published : IsSequence r.published

pub record IsKnown (k : Known) : Type 0 where
  pub of_reach : IsReach k.reach
  pub bytes : IsBytes k.digest
  pub size : length k.digest ≡ 32

-- ---- their order

-- the first vote is below the second: by ballot, then by sequence
unfoldable pub vote_below : HighestVote → HighestVote → Bool
vote_below a b = below a.ballot b.ballot || (not (below b.ballot a.ballot) && nat_lt a.sequence b.sequence)

-- a promise is no lower than one that was known, and so a vote
abbrev pub IsNoLower : (known claimed : Option Ballot) → Type 0
IsNoLower None claimed = Unit {0}
IsNoLower (Some known) None = ⊥
IsNoLower (Some known) (Some claimed) = below claimed known ≡ false

abbrev pub IsNoLowerVote : (known claimed : Option HighestVote) → Type 0
IsNoLowerVote None claimed = Unit {0}
IsNoLowerVote (Some known) None = ⊥
IsNoLowerVote (Some known) (Some claimed) = vote_below claimed known ≡ false

-- the vote that a node still has that has published so far: none at a sequence that it has
-- published
abbrev pub open_vote : Option HighestVote → ℕ → Option HighestVote
open_vote None published = None
open_vote (Some v) published = if nat_lt published v.sequence then Some v else None

-- ---- of two the more

abbrev pub higher_promise : (known claimed : Option Ballot) → Option Ballot
higher_promise known None = known
higher_promise known (Some b) = raised known b

abbrev pub raised_vote : Option HighestVote → HighestVote → Option HighestVote
raised_vote None v = Some v
raised_vote (Some known) v = if vote_below known v then Some v else Some known

abbrev pub higher_vote : (known claimed : Option HighestVote) → Option HighestVote
higher_vote known None = known
higher_vote known (Some v) = raised_vote known v

abbrev pub together : Reach → Reach → Reach
together a b = record { round = max a.round b.round; promise = higher_promise a.promise b.promise; vote = higher_vote a.vote b.vote; published = max a.published b.published }

-- no part of what was known is less
pub record IsReachNoLess (known claimed : Reach) : Type 0 where
  pub tried : known.round ≤ claimed.round
  pub promised : IsNoLower known.promise claimed.promise
  pub voted : IsNoLowerVote known.vote claimed.vote
  pub up_to : known.published ≤ claimed.published

-- ---- of a node of which nothing is known
abbrev pub nothing_known : Known
nothing_known = record { reach = record { round = 0; promise = None; vote = None; published = 0 }; digest = replicate 32 0 }
