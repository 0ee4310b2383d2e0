-- A process is replaced by a folder that has joined.
use Rattle.std.specs.Prelude.{◌≡◌, ℕ, ◌<◌, ◌≤◌, false, List, slice_get, Some}
use Rattle.wf_ballot.specs.Sequence.{IsSlot}
use Rattle.wf_def.specs.Definition.{Definition}
use Rattle.wf_model.specs.DurableState.{DurableState, published}
use Rattle.wf_model.specs.Message.{Vote}
use Rattle.wf_node.specs.Node.{Node, stored_of}
use Rattle.wf_peer.specs.declared.greeting.Greeting.{Greeting}
use Rattle.wf_rejoin.specs.Answer.{IsAbout}
use Rattle.wf_rejoin.specs.Joining.{IsJoining, MayVote, stage_of}
use Rattle.wf_rejoin.specs.declared.answer.Answer.{Answer}
use Rattle.wf_rejoin.specs.declared.joining.Joining.{Joining}
use Rattle.wf_rejoin.specs.declared.joining.Stage.TheVariants.{Answered}
use Rattle.wf_replacement.specs.Rejoining.{IsSilent, MayRejoin}
use Rattle.wf_replacement.specs.Theorems.{HasOneHistory, IsHeldAt}
use Rattle.wf_replacement.specs.Timeline.{ProcessEvent, Rejoins, HoldsCopy, IsTimeline, node_at}
use Rattle.wf_safety.specs.Theorems.{IsBeginning}
use Rattle.wf_tape.specs.declared.tape.Tape.{Ghosts as Tape}

-- ---- an answer

-- A greeting is true to a node that stores this: it tells of all that is published, and none of the
-- votes is at a higher sequence than the one that it tells. So a node greets that knows of the
-- replacement (`wf_loop`). Votes are at sequences from 1 to 4,096.
pub record IsTrueTo (stored : DurableState Definition) (g : Greeting) : Type 0 where
  pub published_to : published stored ≤ g.progress.published
  pub voted_to : (s : ℕ) (vote : Vote Definition) → IsSlot s → stored.votes s ≡ Some vote → s ≤ g.voted
  pub at_slots : (s : ℕ) (vote : Vote Definition) → stored.votes s ≡ Some vote → IsSlot s

-- the answer is what the greeting says
pub record IsGreetedAnswer (g : Greeting) (a : Answer) : Type 0 where
  pub published : a.published ≡ g.progress.published
  pub voted : a.voted ≡ g.voted

-- At some moment between the two, process i ran, and greeted the folder; the greeting was true to
-- its node as it was then, and the answer is what it said.
pub record WasAnswered {T : Type 0} (events : List (ProcessEvent T)) (since until i : ℕ) (a : Answer) : Type 0 where
  pub moment : ℕ
  pub after : since ≤ moment
  pub before : moment ≤ until
  pub node : Node T
  pub at : node_at events moment i ≡ Some node
  pub runs : node.halted ≡ false
  pub greeting : Greeting
  pub is_true : IsTrueTo (stored_of node) greeting
  pub taken : IsGreetedAnswer greeting a

-- So the answer is about what the node had stored.
abbrev pub GreetingsAnswer : Type 0
GreetingsAnswer = (stored : DurableState Definition) (g : Greeting) (a : Answer) → IsTrueTo stored g → IsGreetedAnswer g a → IsAbout stored a

-- ---- a folder that has joined

-- Some process had published these by the moment.
pub record IsPublishedBy {T : Type 0} (n : ℕ) (events : List (ProcessEvent T)) (until : ℕ) (bytes : List ℕ) (holds : HoldsCopy bytes) : Type 0 where
  pub known : ℕ
  pub by_then : known ≤ until
  pub source : ℕ
  pub is_member : source < n
  pub node : Node T
  pub at : node_at events known source ≡ Some node
  pub copied : IsBeginning holds.stored.history node.parts.history

-- Since anything happened to the process with this file `joins`, those answered it whose answers it
-- has.
pub record IsAnsweredSince {T : Type 0} (events : List (ProcessEvent T)) (until : ℕ) (j : Joining) : Type 0 where
  pub since : ℕ
  pub earlier : since ≤ until
  pub silent : IsSilent events since until j.node
  pub joins : IsJoining j
  pub answers : (i : ℕ) (a : Answer) → i < j.nodes → stage_of j i ≡ Answered a → WasAnswered events since until i a

-- The folder has joined by the moment, and its next run is opened from these bytes: it has its
-- answers; it may vote, with what the bytes hold; and some process had published that.
pub record HasJoined {T : Type 0} (events : List (ProcessEvent T)) (until : ℕ) (bytes : List ℕ) (j : Joining) : Type 0 where
  pub answered : IsAnsweredSince events until j
  pub holds : HoldsCopy bytes
  pub may_vote : MayVote j (published holds.stored)
  pub source : IsPublishedBy j.nodes events until bytes holds

abbrev pub JoinedMayRejoin : {T : Type 0} → Tape T → Type 0
JoinedMayRejoin {T} tapes = (events : List (ProcessEvent T)) (until : ℕ) (bytes : List ℕ) (j : Joining) → HasJoined events until bytes j → MayRejoin j.nodes events until j.node bytes

-- the folder is that of process i of n
pub record IsFolderOf (n i : ℕ) (j : Joining) : Type 0 where
  pub nodes : j.nodes ≡ n
  pub node : j.node ≡ i

-- Each process that is replaced has joined so.
abbrev pub EachHasJoined : {T : Type 0} → ℕ → List (ProcessEvent T) → Type 0
EachHasJoined n events = (k i : ℕ) (bytes : List ℕ) → slice_get events k ≡ Some (Rejoins i bytes) → (j : Joining) × IsFolderOf n i j × HasJoined events k bytes j

abbrev pub JoinedOneHistory : {T : Type 0} → Tape T → Type 0
JoinedOneHistory {T} tapes = (n : ℕ) (events : List (ProcessEvent T)) → IsTimeline tapes n events → EachHasJoined n events → HasOneHistory n events

abbrev pub JoinedListsGrow : {T : Type 0} → Tape T → Type 0
JoinedListsGrow {T} tapes = (n : ℕ) (events : List (ProcessEvent T)) → IsTimeline tapes n events → EachHasJoined n events →
    (k l i : ℕ) (node next : Node T) → k ≤ l → IsHeldAt n events k i node → IsHeldAt n events l i next → IsBeginning node.parts.history next.parts.history
