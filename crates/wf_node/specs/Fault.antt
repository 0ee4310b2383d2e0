-- The errors of a step, and which of them are the table's rejections.
use Rattle.std.specs.Prelude.{◌≡◌, Option, Some, None, Result, Ok, Err, IsSome, []}
use Rattle.wf_model.specs.Table as table
use Rattle.wf_node.specs.declared.fault.NodeFault.{NodeFault}
use Rattle.wf_node.specs.declared.fault.NodeFault.TheVariants.{Memory, Busy, SequenceFull, RoundsFull, Halted, TapeFailed, Nothing}
use Rattle.wf_def.specs.Definition.{Definition}
use Rattle.wf_model.specs.Table.{Transition}
use Rattle.wf_proposer.specs.declared.step_rejection.StepRejection.{StepRejection}
use Rattle.wf_proposer.specs.declared.step_rejection.StepRejection.TheVariants as proposer
use Rattle.wf_node.specs.declared.fault.NodeFault.TheVariants as node

-- the table's rejection; allocation failure, a halted node and a failed tape aren't
abbrev pub step_rejection_of : NodeFault → Option table.StepRejection
step_rejection_of Memory = None
step_rejection_of Busy = Some table.Busy
step_rejection_of SequenceFull = Some table.SequenceFull
step_rejection_of RoundsFull = Some table.RoundsFull
step_rejection_of Halted = None
step_rejection_of TapeFailed = None
step_rejection_of Nothing = Some table.NothingToRetry

-- the table's rejection that was returned, None for anything else
abbrev pub rejected_by : {A : Type 0} → Result A NodeFault → Option table.StepRejection
rejected_by (Ok x) = None
rejected_by (Err fault) = step_rejection_of fault

-- the table rejected the input
abbrev pub IsRejectedByTable : {A : Type 0} → Result A NodeFault → Type 0
IsRejectedByTable result = IsSome (rejected_by result)

-- this is the error of the table's rejection, or there is none
abbrev pub IsWhyNot : Option table.StepRejection → Option NodeFault → Type 0
IsWhyNot why None = why ≡ None
IsWhyNot why (Some fault) = (step_rejection_of fault ≡ why) × (why ≡ None → ⊥)

-- A transition may allocate only if it stores or sends something. An answer that leaves no majority
-- does neither.
pub data TakesMemory (transition : Transition Definition) : Type 0 where
  ByEntry : IsSome transition.entry → TakesMemory transition
  ByMessages : (transition.messages ≡ [] → ⊥) → TakesMemory transition

-- A proposer's rejection as a node's error.
abbrev pub fault_of : StepRejection → NodeFault
fault_of proposer.Busy = node.Busy
fault_of proposer.Nothing = node.Nothing
fault_of proposer.RoundsFull = node.RoundsFull
fault_of proposer.Memory = node.Memory
