-- A farm whose processes may lose their disks and be replaced: what happens to them, in one order
-- of time.
use Rattle.std.specs.Prelude.{ℕ, ◌<◌, ◌==◌, ⊤, List, [], ◌∷◌, ◌++◌, take, Option, Some, None, if◌then◌else◌}
use Rattle.wf_execution.specs.Execution.{IsOneOf}
use Rattle.wf_execution.specs.Run.{Act, Run, last, RunEnd, Between, Within, Failed, HasLeft, IsOpenedFrom, IsAct}
use Rattle.wf_codec.specs.declared.message.Message.{Message}
use Rattle.wf_def.specs.Definition.{Definition}
use Rattle.wf_model.specs.DurableState.{DurableState}
use Rattle.wf_node.specs.Images.{StandsFor}
use Rattle.wf_node.specs.Node.{Node}
use Rattle.wf_safety.specs.Replacement.{IsCopy}
use Rattle.wf_tape.specs.declared.tape.Tape.{Ghosts as Tape}

-- What happens to the process of that number: a run of it begins, and its node is this one; its
-- node takes a step; its run ends, and the next one is opened from these bytes; it is lost, and its
-- disk with it; or a process that was lost is replaced, and its next run is opened from these
-- bytes.
pub data ProcessEvent (T : Type 0) : Type 0 where
  Opens : (process : ℕ) (node : Node T) → ProcessEvent T
  Acts : (process : ℕ) (act : Act T) → ProcessEvent T
  Ends : (process : ℕ) (end : RunEnd) (left : List ℕ) → ProcessEvent T
  Loses : (process : ℕ) → ProcessEvent T
  Rejoins : (process : ℕ) (bytes : List ℕ) → ProcessEvent T

abbrev pub process_of : {T : Type 0} → ProcessEvent T → ℕ
process_of (Opens i node) = i
process_of (Acts i act) = i
process_of (Ends i end left) = i
process_of (Loses i) = i
process_of (Rejoins i bytes) = i

-- the messages that an event returns, and all that events return, in their order
abbrev pub returned_by : {T : Type 0} → ProcessEvent T → List Message
returned_by (Opens i node) = []
returned_by (Acts i act) = act.outputs
returned_by (Ends i end left) = []
returned_by (Loses i) = []
returned_by (Rejoins i bytes) = []

unfoldable pub returned_through : {T : Type 0} → List (ProcessEvent T) → List Message
returned_through [] = []
returned_through (event ∷ events) = returned_by event ++ returned_through events

-- ---- one process

-- A process doesn't run, and its next run is opened from these bytes; or it runs; or it is lost.
pub data ProcessState (T : Type 0) : Type 0 where
  Down : (bytes : List ℕ) → ProcessState T
  Up : (run : Run T) → ProcessState T
  Lost : ProcessState T

abbrev pub with_act : {T : Type 0} → ProcessState T → Act T → ProcessState T
with_act (Down bytes) act = Down bytes
with_act (Up run) act = Up (record { first = run.first; acts = run.acts ++ act ∷ [] })
with_act Lost act = Lost

abbrev pub state_after : {T : Type 0} → ProcessState T → ProcessEvent T → ProcessState T
state_after state (Opens i node) = Up (record { first = node; acts = [] })
state_after state (Acts i act) = with_act state act
state_after state (Ends i end left) = Down left
state_after state (Loses i) = Lost
state_after state (Rejoins i bytes) = Down bytes

-- the node of a process that runs
abbrev pub node_in : {T : Type 0} → ProcessState T → Option (Node T)
node_in (Down bytes) = None
node_in (Up run) = Some (last run)
node_in Lost = None

-- the bytes stand for a stored state that has published definitions alone: no vote, no promise
pub record HoldsCopy (bytes : List ℕ) : Type 0 where
  pub stored : DurableState Definition
  pub stands : StandsFor stored bytes
  pub copy : IsCopy stored

-- the input within whose step a run is cut was sent too
abbrev pub IsCutInputSent : List Message → RunEnd → Type 0
IsCutInputSent sent Between = ⊤
IsCutInputSent sent (Within input) = IsOneOf sent input
IsCutInputSent sent (Failed input) = ⊤

-- An event may happen to a process of n in this state, where these messages were returned before. A
-- run begins from what the last one left; a run ends as one of `wf_execution` does; a process is
-- lost whether it runs or not; and only a lost one is replaced.
abbrev pub IsPossible : {T : Type 0} → Tape T → ℕ → List Message → ProcessState T → ProcessEvent T → Type 0
IsPossible tapes n sent (Down bytes) (Opens i node) = IsOpenedFrom n i bytes node
IsPossible tapes n sent (Down bytes) (Acts i act) = ⊥
IsPossible tapes n sent (Down bytes) (Ends i end left) = ⊥
IsPossible tapes n sent (Down bytes) (Loses i) = ⊤
IsPossible tapes n sent (Down bytes) (Rejoins i copy) = ⊥
IsPossible tapes n sent (Up run) (Opens i node) = ⊥
IsPossible tapes n sent (Up run) (Acts i act) = IsAct tapes (last run) act × IsOneOf sent act.input
IsPossible tapes n sent (Up run) (Ends i end left) = HasLeft run end left × IsCutInputSent sent end
IsPossible tapes n sent (Up run) (Loses i) = ⊤
IsPossible tapes n sent (Up run) (Rejoins i copy) = ⊥
IsPossible tapes n sent Lost (Opens i node) = ⊥
IsPossible tapes n sent Lost (Acts i act) = ⊥
IsPossible tapes n sent Lost (Ends i end left) = ⊥
IsPossible tapes n sent Lost (Loses i) = ⊥
IsPossible tapes n sent Lost (Rejoins i copy) = HoldsCopy copy

-- ---- all of them

-- all processes after one event, and after several
unfoldable pub states_with : {T : Type 0} → (ℕ → ProcessState T) → ProcessEvent T → ℕ → ProcessState T
states_with states event j = if j == process_of event then state_after (states j) event else states j

unfoldable pub states_from : {T : Type 0} → (ℕ → ProcessState T) → List (ProcessEvent T) → ℕ → ProcessState T
states_from states [] = states
states_from states (event ∷ events) = states_from (states_with states event) events

-- Each event is of one of the n processes, and may happen to it.
abbrev pub ArePossible : {T : Type 0} → Tape T → ℕ → List Message → (ℕ → ProcessState T) → List (ProcessEvent T) → Type 0
ArePossible tapes n sent states [] = ⊤
ArePossible tapes n sent states (event ∷ events) =
    (process_of event < n) × IsPossible tapes n sent (states (process_of event)) event × ArePossible tapes n (sent ++ returned_by event) (states_with states event) events

-- a process that hasn't started: its tape is empty
abbrev pub unstarted_process : {T : Type 0} → ℕ → ProcessState T
unstarted_process i = Down []

-- A timeline of n processes, which nothing but messages connects: none has started at first, and
-- nothing was sent.
abbrev pub IsTimeline : {T : Type 0} → Tape T → ℕ → List (ProcessEvent T) → Type 0
IsTimeline tapes n events = ArePossible tapes n [] unstarted_process events

-- Moment k is that after the first k events: each process then, and its node, if it runs.
abbrev pub state_at : {T : Type 0} → List (ProcessEvent T) → ℕ → ℕ → ProcessState T
state_at events k i = states_from unstarted_process (take k events) i

abbrev pub node_at : {T : Type 0} → List (ProcessEvent T) → ℕ → ℕ → Option (Node T)
node_at events k i = node_in (state_at events k i)
