-- What holds in every reached world: facts of the messages alone, of what a node stored, of its
-- running proposal and of its leadership. And what a message must satisfy for a node to send it.
use Rattle.std.proofs.Common.{◌≡◌, ◌⊎◌, ℕ, ◌<◌, ◌≤◌, Bool, true, false, List, [], ◌∷◌, ◌++◌, Option, Some, None}
use Rattle.std.specs.Prelude.{⊤}
use Rattle.wf_ballot.specs.Ballot.{Ballot, below}
use Rattle.wf_ballot.specs.Majority.{count_nodes, is_majority_of}
use Rattle.wf_ballot.specs.Sequence.{last_sequence}
use Rattle.wf_model.specs.Message.{Vote, Message, Prepare, Promise, Accept, Accepted, Nack, Chosen, Ask, vote_of}
use Rattle.wf_model.specs.DurableState.{DurableState, published, next_sequence, definition_at}
use Rattle.wf_model.specs.Fits.{NotBelow}
use Rattle.wf_model.specs.VolatileState.{Phase, Preparing, Accepting, Proposal, Proposing, Idle, Running, Won, Overtaken, Leadership, VolatileState, proposed}
use Rattle.wf_model.specs.Table.{Transition, store, is_rejected}
use Rattle.wf_model.specs.Chosen.{IsIn, Reports, Reported, IsChosen}
use Rattle.wf_safety.specs.Theorems.{ballots_of, VoteNotBelow, IsInWindow, HasPromised, BestIsReported, IsBacked}

-- the ballot is in a message that was sent
pub record Stands {V : Type 0} (sent : List (Message V)) (b : Ballot) : Type 0 where
  pub message : Message V
  pub was_sent : IsIn message sent
  pub is_in : IsIn b (ballots_of message)

-- the vote's Accept was sent
abbrev pub IsAsked : {V : Type 0} → List (Message V) → ℕ → Vote V → Type 0
IsAsked sent s vote = IsIn (Accept s vote.ballot vote.definition) sent

-- the votes are those of a whole Promise from `base` on: it reports one, or that there is none, at
-- each sequence of its window
abbrev pub IsWhole : {V : Type 0} → ℕ → List (Option (Vote V)) → Type 0
IsWhole {V} base votes = (s : ℕ) → IsInWindow base s → (vote : Option (Vote V)) × Reports base votes s vote

-- each sequence before this one is chosen
pub record IsNext {V : Type 0} (n : ℕ) (sent : List (Message V)) (s : ℕ) : Type 0 where
  pub earlier : (t : ℕ) → 1 ≤ t → t < s → (d : V) × IsChosen n sent t d

-- some Accept was sent at the sequence and ballot
pub record IsAskedAt {V : Type 0} (sent : List (Message V)) (s : ℕ) (b : Ballot) : Type 0 where
  pub definition : V
  pub asked : IsIn (Accept s b definition) sent

-- ---- the messages alone

pub record MessageFacts {V : Type 0} (n : ℕ) (sent : List (Message V)) : Type 0 where
  pub requested : (i s : ℕ) (b : Ballot) (votes : List (Option (Vote V))) → IsIn (Promise i s b votes) sent → IsIn (Prepare s b) sent
  pub one_accept : (s : ℕ) (b : Ballot) (c d : V) → IsIn (Accept s b c) sent → IsIn (Accept s b d) sent → c ≡ d
  pub backed : (s : ℕ) (b : Ballot) (d : V) → IsIn (Accept s b d) sent → IsBacked n sent s b d
  -- at each sequence of its report, a node that promised at b had reported each vote that it sent
  -- below b, or a later one
  pub reports : (i base s : ℕ) (b c : Ballot) (vote : Option (Vote V)) → Reported sent base s b vote i → IsIn (Accepted i s c) sent →
      below c b ≡ true → VoteNotBelow vote c
  pub reported_asked : (i base s : ℕ) (b : Ballot) (vote : Vote V) → Reported sent base s b (Some vote) i → IsAsked sent s vote
  pub reported_below : (i base s : ℕ) (b : Ballot) (vote : Vote V) → Reported sent base s b (Some vote) i → below vote.ballot b ≡ true
  pub whole : (i s : ℕ) (b : Ballot) (votes : List (Option (Vote V))) → IsIn (Promise i s b votes) sent → IsWhole s votes
  pub chosen : (s : ℕ) (d : V) → IsIn (Chosen s d) sent → IsChosen n sent s d
  pub nodes : (message : Message V) (b : Ballot) → IsIn message sent → IsIn b (ballots_of message) → b.node < n
  pub senders : (i s : ℕ) (b : Ballot) (votes : List (Option (Vote V))) → IsIn (Promise i s b votes) sent → i < n
  pub voters : (i s : ℕ) (b : Ballot) → IsIn (Accepted i s b) sent → i < n
  -- a Promise reports inside its window alone
  pub within : (i base s : ℕ) (b : Ballot) (vote : Option (Vote V)) → Reported sent base s b vote i → IsInWindow base s
  -- a Prepare and an Accept are for a sequence before which all are chosen, and a vote answers an
  -- Accept
  pub prepared_next : (s : ℕ) (b : Ballot) → IsIn (Prepare s b) sent → IsNext n sent s
  pub asked_next : (s : ℕ) (b : Ballot) (d : V) → IsIn (Accept s b d) sent → IsNext n sent s
  pub answered : (i s : ℕ) (b : Ballot) → IsIn (Accepted i s b) sent → IsAskedAt sent s b

-- ---- what node i stored

pub record DurableFacts {V : Type 0} (n i : ℕ) (stored : DurableState V) (sent : List (Message V)) : Type 0 where
  -- an Accept of node i for an open sequence is of a round that it tried
  pub tried : (s : ℕ) (b : Ballot) (d : V) → IsIn (Accept s b d) sent → b.node ≡ i → published stored < s → b.round ≤ stored.tried
  -- votes are of open sequences alone
  pub open_votes : (s : ℕ) → s ≤ published stored → stored.votes s ≡ None
  -- While a sequence of a promise's window is open, node i still has that promise, or a higher one;
  -- and while a sequence is open for which it sent a vote, its promise isn't below that, and it has
  -- that vote, or a later one.
  pub promised : (s : ℕ) (b : Ballot) (votes : List (Option (Vote V))) → IsIn (Promise i s b votes) sent → (t : ℕ) → IsInWindow s t → published stored < t →
      NotBelow stored.promise b
  pub accepted : (s : ℕ) (b : Ballot) → IsIn (Accepted i s b) sent → published stored < s → NotBelow stored.promise b
  pub voted : (s : ℕ) (b : Ballot) → IsIn (Accepted i s b) sent → published stored < s → VoteNotBelow (stored.votes s) b
  -- an Accept was sent for a stored vote, which isn't above the promise, whose ballot is in a
  -- message
  pub vote_asked : (s : ℕ) (vote : Vote V) → stored.votes s ≡ Some vote → IsAsked sent s vote
  pub vote_within : (s : ℕ) (vote : Vote V) → stored.votes s ≡ Some vote → NotBelow stored.promise vote.ballot
  pub promise_stands : (b : Ballot) → stored.promise ≡ Some b → Stands sent b
  pub chosen : (s : ℕ) (d : V) → definition_at stored.history s ≡ Some d → IsChosen n sent s d

-- ---- the running proposal

pub record PreparingFacts {V : Type 0} (sent : List (Message V)) (p : Proposal V) : Type 0 where
  pub fresh : (s : ℕ) (d : V) → p.sequence ≤ s → IsIn (Accept s p.ballot d) sent → ⊥
  pub responders : (i s : ℕ) → p.responders i ≡ true → IsInWindow p.sequence s → HasPromised sent p.sequence s p.ballot (vote_of p.sequence p.best s) i
  pub reports : (s : ℕ) → BestIsReported sent p.sequence s p.ballot p.responders (vote_of p.sequence p.best s)

pub record AcceptingFacts {V : Type 0} (sent : List (Message V)) (p : Proposal V) : Type 0 where
  pub asked : IsIn (Accept p.sequence p.ballot (proposed p)) sent
  pub responders : (i : ℕ) → p.responders i ≡ true → IsIn (Accepted i p.sequence p.ballot) sent

abbrev pub PhaseFacts : {V : Type 0} → List (Message V) → Proposal V → Phase → Type 0
PhaseFacts sent p Preparing = PreparingFacts sent p
PhaseFacts sent p Accepting = AcceptingFacts sent p

pub record ProposalFacts {V : Type 0} (i : ℕ) (stored : DurableState V) (sent : List (Message V)) (p : Proposal V) : Type 0 where
  pub own : p.ballot.node ≡ i
  pub tried : p.ballot.round ≤ stored.tried
  pub next : p.sequence ≡ next_sequence stored
  pub is_sequence : p.sequence ≤ last_sequence
  pub phase : PhaseFacts sent p p.phase

abbrev pub ProposingFacts : {V : Type 0} → ℕ → DurableState V → List (Message V) → Proposing V → Type 0
ProposingFacts i stored sent Idle = ⊤
ProposingFacts i stored sent (Running p) = ProposalFacts i stored sent p
ProposingFacts i stored sent (Won s) = ⊤
ProposingFacts i stored sent (Overtaken s) = ⊤

-- ---- the leadership

-- the last sequence for which a leader may have asked for votes: the next one while a proposal
-- runs, else the last published one
abbrev pub last_asked : {V : Type 0} → DurableState V → Proposing V → ℕ
last_asked stored Idle = published stored
last_asked stored (Running p) = next_sequence stored
last_asked stored (Won s) = published stored
last_asked stored (Overtaken s) = published stored

-- Its ballot is its node's own, and no Accept at it is for a sequence after the last one asked. The
-- nodes are a majority that promised, and its votes are the best that these reported.
pub record LeadershipFacts {V : Type 0} (n i : ℕ) (stored : DurableState V) (sent : List (Message V)) (last : ℕ) (l : Leadership V) : Type 0 where
  pub own : l.ballot.node ≡ i
  pub tried : l.ballot.round ≤ stored.tried
  pub asked : (s : ℕ) (d : V) → IsIn (Accept s l.ballot d) sent → s ≤ last
  pub nodes : ℕ → Bool
  pub is_majority : is_majority_of (count_nodes n nodes) n ≡ true
  pub responders : (j s : ℕ) → nodes j ≡ true → IsInWindow l.base s → HasPromised sent l.base s l.ballot (vote_of l.base l.best s) j
  pub reports : (s : ℕ) → BestIsReported sent l.base s l.ballot nodes (vote_of l.base l.best s)

abbrev pub LeadingFacts : {V : Type 0} → ℕ → ℕ → DurableState V → List (Message V) → ℕ → Option (Leadership V) → Type 0
LeadingFacts n i stored sent last None = ⊤
LeadingFacts n i stored sent last (Some l) = LeadershipFacts n i stored sent last l

pub record VolatileFacts {V : Type 0} (n i : ℕ) (stored : DurableState V) (sent : List (Message V)) (volatile : VolatileState V) : Type 0 where
  pub proposing : ProposingFacts i stored sent volatile.proposing
  pub leading : LeadingFacts n i stored sent (last_asked stored volatile.proposing) volatile.leadership

-- ---- what node i may send

-- a ballot of its own that it tried, or one that it received
abbrev pub IsKnown : {V : Type 0} → ℕ → DurableState V → List (Message V) → Ballot → Type 0
IsKnown i stored sent b = ((b.node ≡ i) × (b.round ≤ stored.tried)) ⊎ Stands sent b

pub record MayPromise {V : Type 0} (i : ℕ) (stored : DurableState V) (sent : List (Message V)) (sender s : ℕ) (b : Ballot) (votes : List (Option (Vote V))) : Type 0 where
  pub own : sender ≡ i
  pub promise : NotBelow stored.promise b
  pub requested : IsIn (Prepare s b) sent
  pub reports : (t : ℕ) (vote : Option (Vote V)) → Reports s votes t vote → (c : Ballot) → IsIn (Accepted i t c) sent → VoteNotBelow vote c
  pub asked : (t : ℕ) (v : Vote V) → Reports s votes t (Some v) → IsAsked sent t v
  pub lower : (t : ℕ) (v : Vote V) → Reports s votes t (Some v) → below v.ballot b ≡ true
  pub whole : IsWhole s votes
  pub within : (t : ℕ) (vote : Option (Vote V)) → Reports s votes t vote → IsInWindow s t

pub record MayAsk {V : Type 0} (n i : ℕ) (stored : DurableState V) (sent : List (Message V)) (s : ℕ) (b : Ballot) (d : V) : Type 0 where
  pub own : b.node ≡ i
  pub tried : b.round ≤ stored.tried
  pub next : IsNext n sent s
  pub fresh : (e : V) → IsIn (Accept s b e) sent → ⊥
  pub backed : IsBacked n sent s b d

pub record MayVote {V : Type 0} (i : ℕ) (stored : DurableState V) (sent : List (Message V)) (sender s : ℕ) (b : Ballot) : Type 0 where
  pub own : sender ≡ i
  pub promise : NotBelow stored.promise b
  pub kept : is_rejected stored.promise b ≡ false
  pub vote : VoteNotBelow (stored.votes s) b
  pub order : (t : ℕ) (c : Ballot) (votes : List (Option (Vote V))) → IsIn (Promise i t c votes) sent → IsInWindow t s → below b c ≡ false
  pub answered : IsAskedAt sent s b

-- what a message of each kind must satisfy
abbrev pub IsMeet : {V : Type 0} → ℕ → ℕ → DurableState V → List (Message V) → Message V → Type 0
IsMeet n i stored sent (Prepare s b) = IsNext n sent s
IsMeet n i stored sent (Promise sender s b votes) = MayPromise i stored sent sender s b votes
IsMeet n i stored sent (Accept s b d) = MayAsk n i stored sent s b d
IsMeet n i stored sent (Accepted sender s b) = MayVote i stored sent sender s b
IsMeet n i stored sent (Nack sender s b promise) = ⊤
IsMeet n i stored sent (Chosen s d) = IsChosen n sent s d
IsMeet n i stored sent (Ask s) = ⊤

pub record MaySend {V : Type 0} (n i : ℕ) (stored : DurableState V) (sent : List (Message V)) (message : Message V) : Type 0 where
  pub is_node : i < n
  pub known : (b : Ballot) → IsIn b (ballots_of message) → IsKnown i stored sent b
  pub meet : IsMeet n i stored sent message

-- ---- a step

-- what is known of a running node before a step
pub record NodeFacts {V : Type 0} (n i : ℕ) (before : DurableState V) (at_work : VolatileState V) (sent : List (Message V)) : Type 0 where
  pub is_node : i < n
  pub messages : MessageFacts n sent
  pub stored : DurableFacts n i before sent
  pub volatile : VolatileFacts n i before sent at_work

-- the messages are sent one after the other
abbrev pub Sends : {V : Type 0} → ℕ → ℕ → DurableState V → List (Message V) → List (Message V) → Type 0
Sends n i stored sent [] = ⊤
Sends n i stored sent (message ∷ rest) = MaySend n i stored sent message × Sends n i stored (sent ++ message ∷ []) rest

-- the proposal at this sequence and ballot runs
abbrev pub IsRunningAt : {V : Type 0} → Proposing V → ℕ → Ballot → Type 0
IsRunningAt Idle s b = ⊥
IsRunningAt (Running p) s b = (p.sequence ≡ s) × (p.ballot ≡ b)
IsRunningAt (Won t) s b = ⊥
IsRunningAt (Overtaken t) s b = ⊥

-- what a node requests is its own proposal's
abbrev pub IsOwnAsk : {V : Type 0} → ℕ → VolatileState V → Message V → Type 0
IsOwnAsk i volatile (Prepare s b) = (b.node ≡ i) × IsRunningAt volatile.proposing s b
IsOwnAsk i volatile (Promise sender s b votes) = ⊤
IsOwnAsk i volatile (Accept s b d) = (b.node ≡ i) × IsRunningAt volatile.proposing s b
IsOwnAsk i volatile (Accepted sender s b) = ⊤
IsOwnAsk i volatile (Nack sender s b promise) = ⊤
IsOwnAsk i volatile (Chosen s d) = ⊤
IsOwnAsk i volatile (Ask s) = ⊤

-- What a transition must keep: its record is stored first, its messages are sent after that.
pub record TransitionFacts {V : Type 0} (n i : ℕ) (before : DurableState V) (sent : List (Message V)) (transition : Transition V) : Type 0 where
  pub stored : DurableFacts n i (store before transition.entry) sent
  pub sends : Sends n i (store before transition.entry) sent transition.messages
  pub volatile : VolatileFacts n i (store before transition.entry) (sent ++ transition.messages) transition.volatile
  pub asks : (message : Message V) → IsIn message transition.messages → IsOwnAsk i transition.volatile message
  -- the round never falls, and a Prepare is of a round that wasn't tried before
  pub rounds : before.tried ≤ (store before transition.entry).tried
  pub prepares : (s : ℕ) (b : Ballot) → IsIn (Prepare s b) transition.messages → before.tried < b.round
