-- Invariants of the transitions and the fold: a transition's record fits its node's stored state;
-- no vote of a published sequence is stored; and no stored vote is above the promise.
use Rattle.std.specs.Prelude.{◌≡◌, ℕ, ◌≤◌, Bool, true, false, ⊤, List, length, Option, Some, None}
use Rattle.wf_ballot.specs.Ballot.{Ballot, below}
use Rattle.wf_model.specs.Message.{Vote}
use Rattle.wf_model.specs.DurableState.{DurableState, Record, published, next_sequence, fits, fold}
use Rattle.wf_model.specs.VolatileState.{Proposing, Idle, Running, Won, Overtaken, VolatileState}
use Rattle.wf_model.specs.Table.{Transition, Input, most_reports, store, transition}

-- a running proposal is for the next sequence
abbrev pub IsForNext : {V : Type 0} → DurableState V → Proposing V → Type 0
IsForNext stored Idle = ⊤
IsForNext stored (Running proposal) = proposal.sequence ≡ next_sequence stored
IsForNext stored (Won s) = ⊤
IsForNext stored (Overtaken s) = ⊤

-- a transition's record fits, if it has one
abbrev pub Fits : {V : Type 0} → DurableState V → Option (Record V) → Type 0
Fits stored None = ⊤
Fits stored (Some r) = fits stored r ≡ true

-- the transition's record fits, and the proposal that runs after it is for the next sequence then
pub record TransitionFits {V : Type 0} (before : DurableState V) (transition : Transition V) : Type 0 where
  pub fits : Fits before transition.entry
  pub for_next : IsForNext (store before transition.entry) transition.volatile.proposing

-- If the running proposal is for the next sequence, each transition's record fits, and the proposal
-- remains for the next sequence.
abbrev pub RecordsFit : Type 0 → Type 0
RecordsFit V = (same : V → V → Bool) (n me : ℕ) (stored : DurableState V) (volatile : VolatileState V) (input : Input V) → IsForNext stored volatile.proposing →
    TransitionFits stored (transition same n me stored volatile input)

-- No transition sends more messages than answer one Ask.
abbrev pub TransitionsAreShort : Type 0 → Type 0
TransitionsAreShort V = (same : V → V → Bool) (n me : ℕ) (stored : DurableState V) (volatile : VolatileState V) (input : Input V) →
    length (transition same n me stored volatile input).messages ≤ most_reports

-- votes are of sequences above the published ones only
abbrev pub IsOpenAlone : {V : Type 0} → DurableState V → Type 0
IsOpenAlone stored = (s : ℕ) → s ≤ published stored → stored.votes s ≡ None

-- a fold of any list of records has no vote of a published sequence
abbrev pub FoldsAreOpen : Type 0 → Type 0
FoldsAreOpen V = (records : List (Record V)) (stored : DurableState V) → fold records ≡ Some stored → IsOpenAlone stored

-- there is a promise, and it isn't below the ballot
abbrev pub NotBelow : Option Ballot → Ballot → Type 0
NotBelow None b = ⊥
NotBelow (Some promise) b = below promise b ≡ false

-- Each vote of a fold of any list of records is at the promise or below it.
abbrev pub VotesArePromised : Type 0 → Type 0
VotesArePromised V = (records : List (Record V)) (stored : DurableState V) (s : ℕ) (vote : Vote V) → fold records ≡ Some stored →
    stored.votes s ≡ Some vote → NotBelow stored.promise vote.ballot
