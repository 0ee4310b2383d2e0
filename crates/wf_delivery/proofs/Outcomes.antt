-- What a node does is what its step returned.
use Rattle.std.proofs.Common.{◌≡◌, true, false, Ok, Err, Vec}
use Rattle.std.specs.Prelude.{Result}
use Rattle.wf_delivery.proofs.Common.{Global, Message, Definition, Input, Node, IsStep, NodeFault, Takes, outputs_by}
use Rattle.wf_node.specs.declared.fault.NodeFault.TheVariants.{Halted}
use Rattle.wf_delivery.specs.Outcome.{is_lost, StepIsAnswered}
use Rattle.wf_delivery.proofs.OneRun.{takes_answered}
use Rattle.wf_tape.specs.declared.tape.Tape.{Ghosts as Tape}

module _ {T : Type 0} (tapes : Tape T) (before after : Node T) (input : Input Definition) where
  answered : (answer : Result (Vec Message Global) NodeFault) → (before.halted ≡ true → (answer ≡ Err Halted) × (after ≡ before)) → (before.halted ≡ false → IsStep tapes before input answer after) →
      Takes tapes (is_lost answer) input before after (outputs_by answer)
  answered (Ok outputs) refused steps = takes_answered tapes before after input (Ok outputs) refused steps
  answered (Err why) refused steps = takes_answered tapes before after input (Err why) refused steps

pub step_is_answered : {T : Type 0} (tapes : Tape T) → StepIsAnswered tapes
step_is_answered tapes = λ before after input answer refused steps. answered tapes before after input answer refused steps
