-- One run of a process: a node that is opened from the bytes on its tape, its steps, and what the
-- run leaves on the tape.
use Rattle.std.specs.Prelude.{◌≡◌, ◌⊎◌, ℕ, Bool, true, false, ⊤, List, [], ◌∷◌, ◌++◌, None}
use Rattle.wf_codec.specs.declared.message.Message.{Message}
use Rattle.wf_def.specs.Definition.{Definition}
use Rattle.wf_model.specs.VolatileState.{at_start}
use Rattle.wf_model.specs.declared.action.Action.{Action}
use Rattle.wf_model.specs.declared.action.Action.TheVariants as action
use Rattle.wf_node.specs.Images.{StandsFor}
use Rattle.wf_node.specs.Input.{view}
use Rattle.wf_node.specs.Node.{Node, stored_of, volatile_of}
use Rattle.wf_node.specs.Step.{step_rejection_at, stored_next}
use Rattle.wf_delivery.specs.NodeInput.{Takes}
use Rattle.wf_tape.specs.declared.tape.Tape.{Ghosts as Tape}

-- an input of a node's step; that of a delivery has the message
abbrev pub Input : Type 0
Input = Action Definition Message

-- a call of a node's step: its input, the messages that it returned, and the node after it
pub record Act (T : Type 0) : Type 0 where
  pub input : Input
  pub outputs : List Message
  pub after : Node T

-- a run up to some moment: the node as it was opened, and its calls since then
pub record Run (T : Type 0) : Type 0 where
  pub first : Node T
  pub acts : List (Act T)

-- the node after these calls
unfoldable pub last_of : {T : Type 0} → Node T → List (Act T) → Node T
last_of node [] = node
last_of node (act ∷ acts) = last_of act.after acts

abbrev pub last : {T : Type 0} → Run T → Node T
last run = last_of run.first run.acts

-- The node is node i of n, and runs. It has stored what these bytes stand for, and has no proposal
-- and no leadership: it was opened from them, and its tape may have been shortened since.
pub record IsOpenedFrom {T : Type 0} (n i : ℕ) (bytes : List ℕ) (node : Node T) : Type 0 where
  pub id : node.id ≡ i
  pub among : node.n ≡ n
  pub runs : node.halted ≡ false
  pub stored : StandsFor (stored_of node) bytes
  pub idle : volatile_of node ≡ at_start

-- the messages that were delivered, and those that were returned
abbrev pub given_to : Input → List Message
given_to (action.Propose d) = []
given_to action.Retry = []
given_to action.CatchUp = []
given_to (action.Deliver message) = message ∷ []

unfoldable pub given : {T : Type 0} → List (Act T) → List Message
given [] = []
given (act ∷ acts) = given_to act.input ++ given acts

unfoldable pub outputs : {T : Type 0} → List (Act T) → List Message
outputs [] = []
outputs (act ∷ acts) = act.outputs ++ outputs acts

-- How a run ended: between two steps; within the step of an input; or after its tape had failed
-- within the step of an input.
pub data RunEnd : Type 0 where
  Between : RunEnd
  Within : (input : Input) → RunEnd
  Failed : (input : Input) → RunEnd

-- The bytes stand for what the node has stored; or for what it has stored after this input's step,
-- if the table doesn't reject that.
abbrev pub StandForEither : {T : Type 0} → Node T → Input → List ℕ → Type 0
StandForEither node input bytes =
    StandsFor (stored_of node) bytes ⊎ ((step_rejection_at node (view input) ≡ None) × StandsFor (stored_next node (view input)) bytes)

-- The tape failed within the step of this input: the node ran before it, and is halted after it.
abbrev pub FailedAt : {T : Type 0} → Node T → List (Act T) → Input → Type 0
FailedAt node [] input = ⊥
FailedAt node (act ∷ acts) input = ((node.halted ≡ false) × (act.after.halted ≡ true) × (act.input ≡ input)) ⊎ FailedAt act.after acts input

-- What a run leaves on its tape, by how it ended. A halted node has stored what it had before the
-- step within which its tape failed.
abbrev pub HasLeft : {T : Type 0} → Run T → RunEnd → List ℕ → Type 0
HasLeft run Between bytes = ((last run).halted ≡ false) × StandsFor (stored_of (last run)) bytes
HasLeft run (Within input) bytes = ((last run).halted ≡ false) × StandForEither (last run) input bytes
HasLeft run (Failed input) bytes = FailedAt run.first run.acts input × StandForEither (last run) input bytes

module _ {T : Type 0} (tapes : Tape T) where
  -- The node was opened from this tape: from what was read of it, which is its content if it is
  -- durable.
  pub record IsOpenedFromTape (n i : ℕ) (tape : T) (node : Node T) : Type 0 where
    pub bytes : List ℕ
    pub opened : IsOpenedFrom n i bytes node
    pub same : tapes.durable → bytes ≡ tapes.content tape

  -- The node did what its step promises: its input had its effect or was rejected, its tape failed,
  -- or an allocation did.
  pub record IsAct (before : Node T) (act : Act T) : Type 0 where
    pub lost : Bool
    pub takes : Takes tapes lost (view act.input) before act.after act.outputs

  abbrev pub AreDone : Node T → List (Act T) → Type 0
  AreDone before [] = ⊤
  AreDone before (act ∷ acts) = IsAct before act × AreDone act.after acts

  -- a run of node i of n, opened from these bytes
  pub record IsRun (n i : ℕ) (bytes : List ℕ) (run : Run T) : Type 0 where
    pub opened : IsOpenedFrom n i bytes run.first
    pub done : AreDone run.first run.acts
