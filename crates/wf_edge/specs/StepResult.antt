-- The result of a node that is asked for a step.
use Rattle.std.specs.Prelude.{◌≡◌, ◌≢◌, true, false, Result, Err, IfErr, Vec}
use Rattle.wf_codec.specs.declared.message.Message.{Message}
use Rattle.wf_def.specs.Definition.{Definition}
use Rattle.wf_model.specs.Table.{Input}
use Rattle.wf_node.specs.Node.{Node}
use Rattle.wf_node.specs.Step.{IsStep}
use Rattle.wf_node.specs.declared.fault.NodeFault.{NodeFault}
use Rattle.wf_node.specs.declared.fault.NodeFault.TheVariants.{Halted, TapeFailed}
use Rattle.wf_tape.specs.declared.tape.Tape.{Ghosts as Tape}

-- The contract of the step. A halted node rejects it, and is unchanged.
pub record IsStepResult {T A : Type 0} (tapes : Tape T) (input : Input Definition) (before : Node T) (answer : Result (Vec Message A) NodeFault) (after : Node T) : Type 0 where
  pub refused : before.halted ≡ true → (answer ≡ Err Halted) × (after ≡ before)
  pub steps : before.halted ≡ false → IsStep tapes before input answer after
  -- a tape that won't fail still won't, and so it didn't
  pub sturdy : tapes.never_fails before.tape → tapes.never_fails after.tape
  pub sound : tapes.never_fails before.tape → IfErr answer (λ fault. fault ≢ TapeFailed)
