-- A session: the nodes of a farm share one process. They are opened, and take steps in one order of
-- time, until the process ends.
use Rattle.std.specs.Prelude.{◌≡◌, ℕ, ◌==◌, ⊤, List, [], ◌∷◌, ◌++◌, slice_get, slice_set, Some, if◌then◌else◌}
use Rattle.wf_execution.specs.Execution.{IsOneOf}
use Rattle.wf_execution.specs.Run.{Act, RunEnd, Run, IsAct}
use Rattle.wf_codec.specs.declared.message.Message.{Message}
use Rattle.wf_node.specs.Node.{Node}
use Rattle.wf_tape.specs.declared.tape.Tape.{Ghosts as Tape}

-- a step of the node at an index
pub record SessionStep (T : Type 0) : Type 0 where
  pub node_index : ℕ
  pub act : Act T

-- the nodes as they were opened, their steps since then, and how the session ended for the node at
-- each index
pub record NodeSession (T : Type 0) : Type 0 where
  pub nodes : List (Node T)
  pub steps : List (SessionStep T)
  pub ends : ℕ → RunEnd

-- ---- the nodes at each moment

abbrev pub stepped : {T : Type 0} → List (Node T) → SessionStep T → List (Node T)
stepped nodes step = slice_set nodes step.node_index step.act.after

unfoldable pub after_steps : {T : Type 0} → List (Node T) → List (SessionStep T) → List (Node T)
after_steps nodes [] = nodes
after_steps nodes (step ∷ steps) = after_steps (stepped nodes step) steps

-- before these steps, and after each of them
unfoldable pub moments_from : {T : Type 0} → List (Node T) → List (SessionStep T) → List (List (Node T))
moments_from nodes [] = nodes ∷ []
moments_from nodes (step ∷ steps) = nodes ∷ moments_from (stepped nodes step) steps

-- ---- what was returned, and by whom

-- the messages that the steps returned
unfoldable pub returned : {T : Type 0} → List (SessionStep T) → List Message
returned [] = []
returned (step ∷ steps) = step.act.outputs ++ returned steps

-- the steps of the node at an index, in their order
unfoldable pub acts_at : {T : Type 0} → ℕ → List (SessionStep T) → List (Act T)
acts_at i [] = []
acts_at i (step ∷ steps) = if step.node_index == i then step.act ∷ acts_at i steps else acts_at i steps

-- the run of the node at an index, which was opened as this one
abbrev pub run_at : {T : Type 0} → ℕ → Node T → NodeSession T → Run T
run_at i first session = record { first = first; acts = acts_at i session.steps }

-- ---- the steps

module _ {T : Type 0} (tapes : Tape T) where
  -- One of the nodes did what a step promises. A message that was delivered to it is one of these.
  pub record IsStepTaken (sent : List Message) (nodes : List (Node T)) (step : SessionStep T) : Type 0 where
    pub before : Node T
    pub at : slice_get nodes step.node_index ≡ Some before
    pub is : IsAct tapes before step.act
    pub arrived : IsOneOf sent step.act.input

  -- The nodes took these steps, one after the other. Each message that was delivered is one of
  -- these, or an earlier step returned it.
  abbrev pub AreStepsTaken : List Message → List (Node T) → List (SessionStep T) → Type 0
  AreStepsTaken sent nodes [] = ⊤
  AreStepsTaken sent nodes (step ∷ steps) = IsStepTaken sent nodes step × AreStepsTaken (sent ++ step.act.outputs) (stepped nodes step) steps
