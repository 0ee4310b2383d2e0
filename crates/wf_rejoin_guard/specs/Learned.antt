-- A folder that joins learns what is published, and is given nothing else: its runs, what they
-- leave, and the theorems.
use Rattle.std.specs.Prelude.{◌≡◌, ℕ, ◌<◌, ◌≤◌, ⊤, List, [], ◌∷◌, ◌++◌, map, take, slice_get, Some, None}
use Rattle.wf_execution.specs.Execution.{Ended, AreRuns}
use Rattle.wf_execution.specs.Continuation.{left_by}
use Rattle.wf_execution.specs.Run.{Input, Act, RunEnd, Between, Within, Failed}
use Rattle.wf_codec.specs.Message as message
use Rattle.wf_codec.specs.declared.message.Message.{Message}
use Rattle.wf_def.specs.Definition.{Definition}
use Rattle.wf_model.specs.Chosen.{IsIn}
use Rattle.wf_model.specs.DurableState.{DurableState, published, definition_at}
use Rattle.wf_model.specs.Message.{Chosen}
use Rattle.wf_model.specs.declared.action.Action.TheVariants as action
use Rattle.wf_node.specs.Images.{StandsFor}
use Rattle.wf_node.specs.Node.{Node}
use Rattle.wf_rejoin.specs.Joining.{MayVote}
use Rattle.wf_rejoin.specs.declared.joining.Joining.{Joining}
use Rattle.wf_replacement.specs.Rejoining.{EachMayRejoin}
use Rattle.wf_replacement.specs.Theorems.{HasOneHistory, IsHeldAt}
use Rattle.wf_replacement.specs.Timeline.{ProcessEvent, Opens, Acts, Ends, Loses, Rejoins, process_of, returned_by, returned_through, ProcessState, Down, Up, Lost, HoldsCopy, IsPossible, states_with, unstarted_process, IsTimeline}
use Rattle.wf_safety.specs.Theorems.{IsBeginning}
use Rattle.wf_tape.specs.declared.tape.Tape.{Ghosts as Tape}
use Rattle.wf_rejoin_guard.specs.Joined.{IsFolderOf, IsAnsweredSince}

-- ---- what a folder that joins is given

-- the message says what is published at a sequence
pub record SaysChosen (m : Message) : Type 0 where
  pub sequence : ℕ
  pub definition : Definition
  pub is : message.view m ≡ Chosen sequence definition

-- The node is given no message but one that says what is published: one of these, which were
-- returned before. A proposal, a retry or a question of its own stores a round at most.
abbrev pub LearnsBy : List Message → Input → Type 0
LearnsBy sent (action.Propose d) = ⊤
LearnsBy sent action.Retry = ⊤
LearnsBy sent action.CatchUp = ⊤
LearnsBy sent (action.Deliver m) = IsIn m sent × SaysChosen m

-- so it is with each step of a run, and with the step within which it ends
abbrev pub ActsLearn : {T : Type 0} → List Message → List (Act T) → Type 0
ActsLearn sent [] = ⊤
ActsLearn sent (act ∷ acts) = LearnsBy sent act.input × ActsLearn sent acts

abbrev pub EndLearns : List Message → RunEnd → Type 0
EndLearns sent Between = ⊤
EndLearns sent (Within input) = LearnsBy sent input
EndLearns sent (Failed input) = ⊤

abbrev pub RunsLearn : {T : Type 0} → List Message → List (Ended T) → Type 0
RunsLearn sent [] = ⊤
RunsLearn sent (ended ∷ later) = ActsLearn sent ended.run.acts × EndLearns sent ended.end × RunsLearn sent later

-- The folder of process i of n was empty at first. Its runs, which have ended, were given only what
-- processes had returned by the moment, and left these bytes.
pub record HasLearnedFrom {T : Type 0} (tapes : Tape T) (n : ℕ) (events : List (ProcessEvent T)) (until i : ℕ) (bytes : List ℕ) : Type 0 where
  pub ended : List (Ended T)
  pub are_runs : AreRuns tapes n i [] ended None
  pub learn : RunsLearn (returned_through (take until events)) ended
  pub left : left_by [] ended ≡ bytes

-- ---- what its bytes hold

-- published definitions alone, of each of which one of these messages says that it is published
pub record HoldsLearned (sent : List Message) (bytes : List ℕ) : Type 0 where
  pub holds : HoldsCopy bytes
  pub said : (s : ℕ) (d : Definition) → definition_at holds.stored.history s ≡ Some d → IsIn (Chosen s d) (map message.view sent)

abbrev pub LearnedAreCopies : {T : Type 0} → Tape T → Type 0
LearnedAreCopies {T} tapes = (n i : ℕ) (sent : List Message) (ended : List (Ended T)) → AreRuns tapes n i [] ended None → RunsLearn sent ended → HoldsLearned sent (left_by [] ended)

-- ---- what a message says is published

-- by the moment, some process had published this definition at sequence s
pub record WasPublished {T : Type 0} (n : ℕ) (events : List (ProcessEvent T)) (until s : ℕ) (d : Definition) : Type 0 where
  pub moment : ℕ
  pub by_then : moment ≤ until
  pub process : ℕ
  pub node : Node T
  pub held : IsHeldAt n events moment process node
  pub has : definition_at node.parts.history s ≡ Some d

abbrev pub ChosenArePublished : {T : Type 0} → Tape T → Type 0
ChosenArePublished {T} tapes = (n : ℕ) (events : List (ProcessEvent T)) → IsTimeline tapes n events → (k s : ℕ) (d : Definition) →
    IsIn (Chosen s d) (map message.view (returned_through (take k events))) → WasPublished n events k s d

-- ---- a folder that has joined

-- The folder with this file `joins` has joined by the moment, and its next run is opened from these
-- bytes: it has its answers; its runs have only learned; and it may vote, with
-- whatever the bytes stand for.
pub record HasJoinedByLearning {T : Type 0} (tapes : Tape T) (events : List (ProcessEvent T)) (until : ℕ) (bytes : List ℕ) (j : Joining) : Type 0 where
  pub answered : IsAnsweredSince events until j
  pub learned : HasLearnedFrom tapes j.nodes events until j.node bytes
  pub may_vote : (stored : DurableState Definition) → StandsFor stored bytes → MayVote j (published stored)

-- Each process that is replaced has joined so.
abbrev pub EachHasLearned : {T : Type 0} → Tape T → ℕ → List (ProcessEvent T) → Type 0
EachHasLearned {T} tapes n events = (k i : ℕ) (bytes : List ℕ) → slice_get events k ≡ Some (Rejoins i bytes) →
    (j : Joining) × IsFolderOf n i j × HasJoinedByLearning tapes events k bytes j

-- ---- timelines

abbrev pub IsGone : {T : Type 0} → ProcessState T → Type 0
IsGone (Down bytes) = ⊥
IsGone (Up run) = ⊥
IsGone Lost = ⊤

-- An event may happen to a process in this state as `wf_replacement` has it, but a lost process may
-- be replaced by any bytes.
abbrev pub IsLooselyPossible : {T : Type 0} → Tape T → ℕ → List Message → ProcessState T → ProcessEvent T → Type 0
IsLooselyPossible tapes n sent state (Opens i node) = IsPossible tapes n sent state (Opens i node)
IsLooselyPossible tapes n sent state (Acts i act) = IsPossible tapes n sent state (Acts i act)
IsLooselyPossible tapes n sent state (Ends i end left) = IsPossible tapes n sent state (Ends i end left)
IsLooselyPossible tapes n sent state (Loses i) = IsPossible tapes n sent state (Loses i)
IsLooselyPossible tapes n sent state (Rejoins i bytes) = IsGone state

abbrev pub AreLooselyPossible : {T : Type 0} → Tape T → ℕ → List Message → (ℕ → ProcessState T) → List (ProcessEvent T) → Type 0
AreLooselyPossible tapes n sent states [] = ⊤
AreLooselyPossible tapes n sent states (event ∷ events) =
    (process_of event < n) × IsLooselyPossible tapes n sent (states (process_of event)) event × AreLooselyPossible tapes n (sent ++ returned_by event) (states_with states event) events

-- a timeline of n processes, but for what the bytes hold by which a lost one is replaced
abbrev pub IsLooseTimeline : {T : Type 0} → Tape T → ℕ → List (ProcessEvent T) → Type 0
IsLooseTimeline tapes n events = AreLooselyPossible tapes n [] unstarted_process events

-- It is a timeline of `wf_replacement`, and each process that is replaced may be.
pub record IsGuardedTimeline {T : Type 0} (tapes : Tape T) (n : ℕ) (events : List (ProcessEvent T)) : Type 0 where
  pub timeline : IsTimeline tapes n events
  pub may_rejoin : EachMayRejoin n events

abbrev pub LearnersMayRejoin : {T : Type 0} → Tape T → Type 0
LearnersMayRejoin {T} tapes = (n : ℕ) (events : List (ProcessEvent T)) → IsLooseTimeline tapes n events → EachHasLearned tapes n events → IsGuardedTimeline tapes n events

abbrev pub LearnedOneHistory : {T : Type 0} → Tape T → Type 0
LearnedOneHistory {T} tapes = (n : ℕ) (events : List (ProcessEvent T)) → IsLooseTimeline tapes n events → EachHasLearned tapes n events → HasOneHistory n events

abbrev pub LearnedListsGrow : {T : Type 0} → Tape T → Type 0
LearnedListsGrow {T} tapes = (n : ℕ) (events : List (ProcessEvent T)) → IsLooseTimeline tapes n events → EachHasLearned tapes n events →
    (k l i : ℕ) (node next : Node T) → k ≤ l → IsHeldAt n events k i node → IsHeldAt n events l i next → IsBeginning node.parts.history next.parts.history
