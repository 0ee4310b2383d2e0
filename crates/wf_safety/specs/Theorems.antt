-- The agreement theorem and the theorems that it is built on, as statements about the world after
-- any events.
use Rattle.std.specs.Prelude.{◌≡◌, ℕ, ◌+◌, ◌<◌, ◌≤◌, Bool, true, false, ⊤, List, [], ◌∷◌, ◌++◌, length, drop, slice_get, Option, Some, None}
use Rattle.wf_ballot.specs.Ballot.{Ballot, below}
use Rattle.wf_ballot.specs.Majority.{Majority}
use Rattle.wf_ballot.specs.Sequence.{last_sequence}
use Rattle.wf_model.specs.Message.{Vote, Message, Prepare, Promise, Accept, Accepted, Nack, Chosen, Ask}
use Rattle.wf_model.specs.DurableState.{DurableState, definition_at}
use Rattle.wf_model.specs.Fits.{NotBelow}
use Rattle.wf_model.specs.VolatileState.{Proposal, VolatileState, Running, window}
use Rattle.wf_model.specs.World as world
use Rattle.wf_model.specs.World.{World, Event, after, happens}
use Rattle.wf_model.specs.Chosen.{IsIn, Voted, Reported, IsChosen, history, definition}

-- ---- ballots belong to their nodes

abbrev pub vote_ballots : {V : Type 0} → Option (Vote V) → List Ballot
vote_ballots None = []
vote_ballots (Some vote) = vote.ballot ∷ []

abbrev pub votes_ballots : {V : Type 0} → List (Option (Vote V)) → List Ballot
votes_ballots [] = []
votes_ballots (vote ∷ rest) = vote_ballots vote ++ votes_ballots rest

-- the ballots that a message contains
abbrev pub ballots_of : {V : Type 0} → Message V → List Ballot
ballots_of (Prepare s b) = b ∷ []
ballots_of (Promise i s b votes) = b ∷ votes_ballots votes
ballots_of (Accept s b d) = b ∷ []
ballots_of (Accepted i s b) = b ∷ []
ballots_of (Nack i s b promise) = b ∷ promise ∷ []
ballots_of (Chosen s d) = []
ballots_of (Ask s) = []

-- node i exists, with this durable state
pub record NodeHas {V : Type 0} (w : World V) (i : ℕ) (stored : DurableState V) : Type 0 where
  pub volatile : Option (VolatileState V)
  pub is_there : slice_get w.nodes i ≡ Some (record { stored = stored; volatile = volatile })

-- the ballot's node has tried its round, or a later one
pub record IsTried {V : Type 0} (w : World V) (b : Ballot) : Type 0 where
  pub stored : DurableState V
  pub node : NodeHas w b.node stored
  pub tried : b.round ≤ stored.tried

-- node i runs a proposal with this sequence and ballot
pub record Proposes {V : Type 0} (w : World V) (i s : ℕ) (b : Ballot) : Type 0 where
  pub stored : DurableState V
  pub volatile : VolatileState V
  pub proposal : Proposal V
  pub is_there : slice_get w.nodes i ≡ Some (record { stored = stored; volatile = Some volatile })
  pub is_running : volatile.proposing ≡ Running proposal
  pub at_sequence : proposal.sequence ≡ s
  pub at_ballot : proposal.ballot ≡ b

-- the node that an event is about
abbrev pub node_of : {V : Type 0} → Event V → ℕ
node_of (world.Act i action) = i
node_of (world.Stop i) = i
node_of (world.Restart i) = i
node_of (world.Torn i action kept) = i

-- a node sends Prepare and Accept only at a ballot of its own, and its proposal at that ballot is
-- running
abbrev pub AsksForItself : {V : Type 0} → World V → ℕ → Message V → Type 0
AsksForItself w i (Prepare s b) = (b.node ≡ i) × Proposes w i s b
AsksForItself w i (Accept s b d) = (b.node ≡ i) × Proposes w i s b
AsksForItself w i message = ⊤

pub record OwnBallotsIn {V : Type 0} (w : World V) : Type 0 where
  pub tried : (message : Message V) (b : Ballot) → IsIn message w.sent → IsIn b (ballots_of message) → IsTried w b
  pub one_base : (s t : ℕ) (b : Ballot) → IsIn (Prepare s b) w.sent → IsIn (Prepare t b) w.sent → s ≡ t
  pub requested : (i s : ℕ) (b : Ballot) (votes : List (Option (Vote V))) → IsIn (Promise i s b votes) w.sent → IsIn (Prepare s b) w.sent
  pub one_accept : (s : ℕ) (b : Ballot) (c d : V) → IsIn (Accept s b c) w.sent → IsIn (Accept s b d) w.sent → c ≡ d

-- A ballot is used only by proposals of its own node; promises are requested at it from one
-- sequence on, and votes for one definition at each sequence, even after a restart that lost the
-- volatile state.
pub record OwnBallots (V : Type 0) : Type 0 where
  pub facts : (same : V → V → Bool) (n : ℕ) (events : List (Event V)) → OwnBallotsIn (after same n events)
  pub asked : (same : V → V → Bool) (n : ℕ) (events : List (Event V)) (event : Event V) (message : Message V) →
      IsIn message (drop (length (after same n events).sent) (happens same (after same n events) event).sent) →
      AsksForItself (happens same (after same n events) event) (node_of event) message

-- ---- promises are kept

-- node i still has a promise that isn't below b
pub record IsBound {V : Type 0} (w : World V) (i : ℕ) (b : Ballot) : Type 0 where
  pub stored : DurableState V
  pub node : NodeHas w i stored
  pub bound : NotBelow stored.promise b

-- no message after a promise of that node is a vote below it, at any sequence
abbrev pub NoVoteBelow : {V : Type 0} → Message V → List (Message V) → Type 0
NoVoteBelow (Promise i s b votes) later = (t : ℕ) (c : Ballot) → IsIn (Accepted i t c) later → below c b ≡ false
NoVoteBelow message later = ⊤

abbrev pub VotesInOrder : {V : Type 0} → List (Message V) → Type 0
VotesInOrder [] = ⊤
VotesInOrder (message ∷ later) = NoVoteBelow message later × VotesInOrder later

pub record KeptPromisesIn {V : Type 0} (w : World V) : Type 0 where
  pub promised : (i s : ℕ) (b : Ballot) (votes : List (Option (Vote V))) → IsIn (Promise i s b votes) w.sent → IsBound w i b
  pub accepted : (i s : ℕ) (b : Ballot) → IsIn (Accepted i s b) w.sent → IsBound w i b
  pub in_order : VotesInOrder w.sent
  pub stored_vote : (i s : ℕ) (stored : DurableState V) (vote : Vote V) → NodeHas w i stored → stored.votes s ≡ Some vote → IsIn (Accept s vote.ballot vote.definition) w.sent
  pub reported_vote : (i base s : ℕ) (b : Ballot) (vote : Vote V) → Reported w.sent base s b (Some vote) i → IsIn (Accept s vote.ballot vote.definition) w.sent

-- A node keeps its promises: it stays bound, also after it published; it sends no vote below its
-- promise; and for each vote that it stores or reports an Accept was sent.
abbrev pub KeptPromises : Type 0 → Type 0
KeptPromises V = (same : V → V → Bool) (n : ℕ) (events : List (Event V)) → KeptPromisesIn (after same n events)

-- ---- a majority promised

-- a vote at a ballot that isn't below b
abbrev pub VoteNotBelow : {V : Type 0} → Option (Vote V) → Ballot → Type 0
VoteNotBelow None b = ⊥
VoteNotBelow (Some vote) b = below vote.ballot b ≡ false

-- a reported vote isn't above the best one; where there is no best one, no vote was reported
abbrev pub AreReportsWithin : {V : Type 0} → Option (Vote V) → Option (Vote V) → Type 0
AreReportsWithin None best = ⊤
AreReportsWithin (Some vote) best = VoteNotBelow best vote.ballot

-- node i promised at the ballot from `base` on, and reported for the sequence a vote not above the
-- best one, or none
pub record HasPromised {V : Type 0} (sent : List (Message V)) (base s : ℕ) (b : Ballot) (best : Option (Vote V)) (i : ℕ) : Type 0 where
  pub vote : Option (Vote V)
  pub stated : Reported sent base s b vote i
  pub within : AreReportsWithin vote best

-- one of these nodes reported the vote for the sequence
pub record IsReported {V : Type 0} (sent : List (Message V)) (base s : ℕ) (b : Ballot) (nodes : ℕ → Bool) (vote : Vote V) : Type 0 where
  pub teller : ℕ
  pub is_member : nodes teller ≡ true
  pub stated : Reported sent base s b (Some vote) teller

-- the best vote, if there is one, was reported by one of these nodes
abbrev pub BestIsReported : {V : Type 0} → List (Message V) → ℕ → ℕ → Ballot → (ℕ → Bool) → Option (Vote V) → Type 0
BestIsReported sent base s b nodes None = ⊤
BestIsReported sent base s b nodes (Some vote) = IsReported sent base s b nodes vote

-- d is the definition of the best vote, if there is one
abbrev pub IsVoteCarried : {V : Type 0} → Option (Vote V) → V → Type 0
IsVoteCarried None d = ⊤
IsVoteCarried (Some vote) d = d ≡ vote.definition

-- The sequence is one of those at which a Promise from `base` on reports votes.
pub record IsInWindow (base s : ℕ) : Type 0 where
  pub from_base : base ≤ s
  pub before_end : s < base + window
  pub is_sequence : s ≤ last_sequence

-- A majority promised at the ballot, all from one sequence on, at most three before s. And d is the
-- definition of the highest vote that they reported for s, or they reported none there.
pub record IsBacked {V : Type 0} (n : ℕ) (sent : List (Message V)) (s : ℕ) (b : Ballot) (d : V) : Type 0 where
  pub base : ℕ
  pub in_window : IsInWindow base s
  pub best : Option (Vote V)
  pub majority : Majority n (HasPromised sent base s b best)
  pub reports : BestIsReported sent base s b majority.nodes best
  pub carried : IsVoteCarried best d

pub record PromisedMajorityIn {V : Type 0} (n : ℕ) (sent : List (Message V)) : Type 0 where
  pub backed : (s : ℕ) (b : Ballot) (d : V) → IsIn (Accept s b d) sent → IsBacked n sent s b d
  pub carries : (s : ℕ) (b c : Ballot) (d e : V) → Majority n (Voted sent s b d) → below b c ≡ true → IsIn (Accept s c e) sent → e ≡ d

-- Each Accept is backed, and so carries the definition that was chosen at a lower ballot.
abbrev pub PromisedMajority : Type 0 → Type 0
PromisedMajority V = (same : V → V → Bool) (n : ℕ) (events : List (Event V)) → PromisedMajorityIn n (after same n events).sent

-- ---- agreement

abbrev pub IsBeginning : {A : Type 0} → List A → List A → Type 0
IsBeginning {A} xs ys = (rest : List A) × (xs ++ rest ≡ ys)

pub record AgreementIn {V : Type 0} (n : ℕ) (w : World V) : Type 0 where
  pub one_chosen : (s : ℕ) (c d : V) → IsChosen n w.sent s c → IsChosen n w.sent s d → c ≡ d
  pub published_is_chosen : (i s : ℕ) (d : V) → definition_at (history w i) s ≡ Some d → IsChosen n w.sent s d
  pub reported_is_chosen : (s : ℕ) (d : V) → IsIn (Chosen s d) w.sent → IsChosen n w.sent s d
  pub same_definition : (empty : V) (i j s : ℕ) (c d : V) → definition empty w i s ≡ Some c → definition empty w j s ≡ Some d → c ≡ d

-- At every time, at most one definition is chosen for a sequence, and nodes publish only what is
-- chosen. So no two nodes publish different definitions under one sequence, and a node keeps what
-- it published.
pub record Agreement (V : Type 0) : Type 0 where
  pub facts : (same : V → V → Bool) (n : ℕ) (events : List (Event V)) → AgreementIn n (after same n events)
  pub grows : (same : V → V → Bool) (n i : ℕ) (events more : List (Event V)) →
      IsBeginning (history (after same n events) i) (history (after same n (events ++ more)) i)
