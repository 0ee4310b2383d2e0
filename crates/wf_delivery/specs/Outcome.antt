-- What a node does that is asked for a step, by what its step promises.
use Rattle.std.specs.Prelude.{◌≡◌, Bool, true, false, Result, Ok, Err, Vec}
use Rattle.wf_delivery.specs.Common.{Global, Message, Definition, Input, Node, IsStep, NodeFault, Halted}
use Rattle.wf_delivery.specs.NodeInput.{Takes, is_memory}
use Rattle.wf_delivery.specs.Reachability.{outputs_by}
use Rattle.wf_tape.specs.declared.tape.Tape.{Ghosts as Tape}

-- the input is lost if an allocation failed
abbrev pub is_lost : Result (Vec Message Global) NodeFault → Bool
is_lost (Ok outputs) = false
is_lost (Err why) = is_memory why

-- A halted node rejects and is unchanged, and one that runs makes a step: then the node did one of
-- the things that it does with an input, and sent what it returned.
abbrev pub StepIsAnswered : {T : Type 0} → Tape T → Type 0
StepIsAnswered {T} tapes = (before after : Node T) (input : Input Definition) (answer : Result (Vec Message Global) NodeFault) →
    (before.halted ≡ true → (answer ≡ Err Halted) × (after ≡ before)) → (before.halted ≡ false → IsStep tapes before input answer after) →
    Takes tapes (is_lost answer) input before after (outputs_by answer)
