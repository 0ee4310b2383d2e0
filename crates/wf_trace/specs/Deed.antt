-- What a process does at one moment, and what that does to its node.
use Rattle.std.specs.Prelude.{◌≡◌, ◌⊎◌, ℕ, Bool, List, [], Some, None}
use Rattle.wf_model.specs.Message.{Message}
use Rattle.wf_model.specs.DurableState.{nothing_stored}
use Rattle.wf_model.specs.VolatileState.{at_start}
use Rattle.wf_model.specs.Table.{Input}
use Rattle.wf_model.specs.World.{Node, Turn, Kept, stored_after, kept_part, turn_of}

-- A process takes an input, with the message itself where one is delivered; or it crashes within
-- the step of an input; or it stops; or a stopped one starts again.
pub data Deed (V : Type 0) : Type 0 where
  Takes : (input : Input V) → Deed V
  Crashes : (input : Input V) (kept : Kept) → Deed V
  Stops Restarts : Deed V

-- a process that has done nothing yet: its node runs, with nothing stored
abbrev pub new_node : {V : Type 0} → Node V
new_node = record { stored = nothing_stored; volatile = Some at_start }

-- nothing happens, and nothing is sent
pub record IsIdleDeed {V : Type 0} (before : Node V) (outputs : List (Message V)) (after : Node V) : Type 0 where
  pub same_node : after ≡ before
  pub silent : outputs ≡ []

-- The node of process i of n, before and after a deed, and the messages that the process sent by
-- it.
module _ {V : Type 0} (same : V → V → Bool) (n i : ℕ) (before : Node V) where
  -- The input has an effect, that of this turn: its record is stored, its messages are sent, and
  -- its volatile state is the next one.
  pub record Steps (input : Input V) (outputs : List (Message V)) (after : Node V) : Type 0 where
    pub turn : Turn V
    pub effect : turn_of same n i (Some before) (Some input) ≡ Some turn
    pub messages : outputs ≡ turn.transition.messages
    pub node : after ≡ record { stored = stored_after turn; volatile = Some turn.transition.volatile }

  -- A crash within that step loses its messages and the volatile state; its record is stored or
  -- not.
  pub record Tears (input : Input V) (kept : Kept) (outputs : List (Message V)) (after : Node V) : Type 0 where
    pub turn : Turn V
    pub effect : turn_of same n i (Some before) (Some input) ≡ Some turn
    pub silent : outputs ≡ []
    pub node : after ≡ record { stored = kept_part kept turn; volatile = None }

  -- A stop loses the volatile state.
  pub record IsNodeStopped (outputs : List (Message V)) (after : Node V) : Type 0 where
    pub silent : outputs ≡ []
    pub node : after ≡ record { stored = before.stored; volatile = None }

  -- A stopped node comes back with what it stored, no proposal and no leadership.
  pub record IsRestarted (outputs : List (Message V)) (after : Node V) : Type 0 where
    pub stopped : before.volatile ≡ None
    pub silent : outputs ≡ []
    pub node : after ≡ record { stored = before.stored; volatile = Some at_start }

  -- An input that is rejected, or lost for want of memory, changes nothing.
  abbrev pub IsDone : Deed V → List (Message V) → Node V → Type 0
  IsDone (Takes input) outputs after = Steps input outputs after ⊎ IsIdleDeed before outputs after
  IsDone (Crashes input kept) outputs after = Tears input kept outputs after
  IsDone Stops outputs after = IsNodeStopped outputs after
  IsDone Restarts outputs after = IsRestarted outputs after
