-- The sessions on one folder, one after the other: each reads what the one before it left on the
-- tapes.
use Rattle.std.specs.Prelude.{◌≡◌, ℕ, ⊤, List, [], ◌∷◌, ◌++◌, length, slice_get, Some}
use Rattle.wf_execution.specs.Execution.{IsOneOf}
use Rattle.wf_execution.specs.Run.{RunEnd, Between, Within, Failed, HasLeft, IsOpenedFrom}
use Rattle.wf_codec.specs.declared.message.Message.{Message}
use Rattle.wf_def.specs.Definition.{Definition}
use Rattle.wf_model.specs.DurableState.{DurableState}
use Rattle.wf_node.specs.Images.{StandsFor}
use Rattle.wf_node.specs.Node.{Node}
use Rattle.wf_tape.specs.declared.tape.Tape.{Ghosts as Tape}
use Rattle.wf_runs.specs.Session.{NodeSession, AreStepsTaken, moments_from, returned, run_at}

-- ---- what a session leaves

-- What openings that were cut off make of the bytes of a tape: whatever durable state the bytes
-- stood for, they stand for it still. The file is the old one, or a new one with its whole records
-- or those of a shortened tape.
abbrev pub ReadsAlike : List ℕ → List ℕ → Type 0
ReadsAlike old new = (stored : DurableState Definition) → StandsFor stored old → StandsFor stored new

-- a message within whose delivery the session ended is one of these
abbrev pub IsEndBy : List Message → RunEnd → Type 0
IsEndBy sent Between = ⊤
IsEndBy sent (Within input) = IsOneOf sent input
IsEndBy sent (Failed input) = ⊤

-- These bytes may be read of the tape at an index after the session: its node's run left them, as
-- it ended for that node (`HasLeft`: between two steps the bytes stand for what the node has
-- stored; within one, and after its tape failed within one, for what it had stored before it or has
-- after it), or openings that were cut off since then made them of what that left.
pub record IsLeftAt {T : Type 0} (session : NodeSession T) (i : ℕ) (bytes : List ℕ) : Type 0 where
  pub first : Node T
  pub at : slice_get session.nodes i ≡ Some first
  pub left : List ℕ
  pub by_run : HasLeft (run_at i first session) (session.ends i) left
  pub by_openings : ReadsAlike left bytes
  pub sent : IsEndBy (returned session.steps) (session.ends i)

-- A new tape: nothing was written on it, or by openings that were cut off alone.
abbrev pub IsNewTape : ℕ → List ℕ → Type 0
IsNewTape i bytes = ReadsAlike [] bytes

-- ---- the sessions

-- The node at an index of n was opened from bytes that may be read there.
pub record IsFound {T : Type 0} (n i : ℕ) (found : ℕ → List ℕ → Type 0) (node : Node T) : Type 0 where
  pub bytes : List ℕ
  pub may_be : found i bytes
  pub opened : IsOpenedFrom n i bytes node

module _ {T : Type 0} (tapes : Tape T) (n : ℕ) where
  -- n nodes were opened from bytes that may be read on their tapes, and took the session's steps.
  pub record IsSession (found : ℕ → List ℕ → Type 0) (session : NodeSession T) : Type 0 where
    pub as_many : length session.nodes ≡ n
    pub opened : (i : ℕ) (node : Node T) → slice_get session.nodes i ≡ Some node → IsFound n i found node
    pub taken : AreStepsTaken tapes [] session.nodes session.steps

  abbrev pub AreSessions : (ℕ → List ℕ → Type 0) → List (NodeSession T) → Type 0
  AreSessions found [] = ⊤
  AreSessions found (session ∷ later) = IsSession found session × AreSessions (IsLeftAt session) later

  -- They are all sessions on a folder that was new before the first one.
  abbrev pub IsFolder : List (NodeSession T) → Type 0
  IsFolder sessions = AreSessions IsNewTape sessions

-- the nodes at each moment of the sessions, in the order of time
unfoldable pub moments : {T : Type 0} → List (NodeSession T) → List (List (Node T))
moments [] = []
moments (session ∷ later) = moments_from session.nodes session.steps ++ moments later

-- At this moment the node at that index was this one.
pub record WasAt {T : Type 0} (sessions : List (NodeSession T)) (moment node_index : ℕ) (node : Node T) : Type 0 where
  pub nodes : List (Node T)
  pub then : slice_get (moments sessions) moment ≡ Some nodes
  pub there : slice_get nodes node_index ≡ Some node

-- it was so at some moment
pub record WasOnce {T : Type 0} (sessions : List (NodeSession T)) (node : Node T) : Type 0 where
  pub moment : ℕ
  pub node_index : ℕ
  pub at : WasAt sessions moment node_index node
