-- What a durable tape gives: each image of it, which is what a crash may leave, is something that a
-- run leaves.
use Rattle.std.specs.Prelude.{◌≡◌, ℕ, true, false, List, None}
use Rattle.wf_node.specs.Images.{EachStandsFor}
use Rattle.wf_node.specs.Input.{view}
use Rattle.wf_node.specs.Node.{Node, stored_of, IsOnTape}
use Rattle.wf_node.specs.Reopening.{HasStoredAs}
use Rattle.wf_node.specs.Step.{step_rejection_at, stored_next}
use Rattle.wf_tape.specs.Change.{inside}
use Rattle.wf_tape.specs.declared.tape.Tape.{Ghosts as Tape}
use Rattle.wf_execution.specs.Run.{Input, Run, last, Between, Within, Failed, FailedAt, HasLeft, IsOpenedFrom, IsRun}

-- Of a node that runs, whose durable state is on its tape, as it is after each call of the node:
-- where the run ends between two steps.
abbrev pub LeavesBetween : {T : Type 0} → Tape T → Type 0
LeavesBetween {T} tapes = (run : Run T) → (last run).halted ≡ false → IsOnTape tapes (last run) → (image : List ℕ) → tapes.images (last run).tape image → HasLeft run Between image

-- Where it ends within a step that the table doesn't reject: what a crash inside the step leaves,
-- whichever tape the step would have left.
abbrev pub LeavesWithin : {T : Type 0} → Tape T → Type 0
LeavesWithin {T} tapes = (run : Run T) (input : Input) (next : T) → (last run).halted ≡ false → step_rejection_at (last run) (view input) ≡ None →
    EachStandsFor (stored_of (last run)) (stored_next (last run) (view input)) (inside tapes (last run).tape next) →
    (image : List ℕ) → inside tapes (last run).tape next image → HasLeft run (Within input) image

-- What such a run leaves is something that is left where a tape fails within the step of some
-- input.
pub record HasLeftFailed {T : Type 0} (run : Run T) (left : List ℕ) : Type 0 where
  pub input : Input
  pub leaves : HasLeft run (Failed input) left

-- Of any tape: a node is opened from some bytes once the tape of a run's node has failed. If it has
-- stored what that node had, or that with the record which that node kept of the step, these bytes
-- are such.
abbrev pub ComparisonLeaves : {T : Type 0} → Tape T → Type 0
ComparisonLeaves {T} tapes = (n i : ℕ) (bytes left : List ℕ) (run : Run T) (next : Node T) → IsRun tapes n i bytes run → (last run).halted ≡ true →
    IsOpenedFrom n i left next → HasStoredAs (last run) next → HasLeftFailed run left

-- Where its tape has failed: within the step of some input.
pub record HasTapeFailed {T : Type 0} (tapes : Tape T) (run : Run T) : Type 0 where
  pub input : Input
  pub failed : FailedAt run.first run.acts input
  pub leaves : (image : List ℕ) → tapes.images (last run).tape image → HasLeft run (Failed input) image

abbrev pub LeavesFailed : {T : Type 0} → Tape T → Type 0
LeavesFailed {T} tapes = tapes.durable → (n i : ℕ) (bytes : List ℕ) (run : Run T) → IsRun tapes n i bytes run → (last run).halted ≡ true → HasTapeFailed tapes run
