-- What a node does with an input that a caller gives it, over any kind of tape.
use Rattle.std.specs.Prelude.{◌≡◌, ◌⊎◌, ◌++◌, Bool, true, false, List, [], Option, Some, None}
use Rattle.wf_codec.specs.Message as message
use Rattle.wf_delivery.specs.Common.{Message, Definition, Input, StepRejection, store, EachIsCut, EachStandsFor, Node, stored_of, entry_of, stored_next, transition_of, step_rejection_at, IsTransition, IsSameNode, TakesMemory, NodeFault}
use Rattle.wf_codec.specs.Message.{HasDefinition}
use Rattle.wf_model.specs.Table as table
use Rattle.wf_node.specs.TapeWrites.{bytes_of}
use Rattle.wf_tape.specs.Tape.{IsExtended}
use Rattle.wf_node.specs.declared.fault.NodeFault.TheVariants as fault
use Rattle.wf_tape.specs.declared.tape.Tape.{Ghosts as Tape}

-- whether a node's error is allocation failure, and whether it is that of a halted node
abbrev pub is_memory : NodeFault → Bool
is_memory fault.Memory = true
is_memory fault.Busy = false
is_memory fault.SequenceFull = false
is_memory fault.RoundsFull = false
is_memory fault.Halted = false
is_memory fault.TapeFailed = false
is_memory fault.Nothing = false

abbrev pub is_halt : NodeFault → Bool
is_halt fault.Memory = false
is_halt fault.Busy = false
is_halt fault.SequenceFull = false
is_halt fault.RoundsFull = false
is_halt fault.Halted = true
is_halt fault.TapeFailed = false
is_halt fault.Nothing = false

abbrev pub reports_halt : Option NodeFault → Bool
reports_halt None = false
reports_halt (Some f) = is_halt f

-- why the delivery of a message to a node may be lost: the message has a definition, or the step
-- stores or sends something
abbrev pub MayBeLost : {T : Type 0} → Message → Node T → Type 0
MayBeLost m node = HasDefinition (message.view m) ⊎ TakesMemory node (table.Deliver (message.view m))

module _ {T : Type 0} (tapes : Tape T) where
  -- An allocation failed before the node had done anything, so the input is lost: the node, which
  -- isn't halted, is unchanged but for its tape, whose content is unchanged too, and sends nothing.
  pub record IsInputLost (before after : Node T) (outputs : List Message) : Type 0 where
    pub runs : before.halted ≡ false
    pub still : after.halted ≡ false
    pub same : IsSameNode before after
    pub kept : tapes.durable → tapes.content after.tape ≡ tapes.content before.tape
    pub quiet : outputs ≡ []

  -- What a node does with an input that isn't lost. A halted node rejects it, and so does one whose
  -- step table rejects it: either is unchanged. Otherwise the node steps, and its tape holds the
  -- bytes of the step's record too; or its tape fails within the step: the node keeps the step's
  -- record, nothing is sent, the tape holds a prefix of these bytes too, and each image stands for
  -- what was stored before or after.
  pub data Answers (input : Input Definition) (before after : Node T) (outputs : List Message) : Type 0 where
    Halts : before.halted ≡ true → after ≡ before → outputs ≡ [] → Answers input before after outputs
    Rejects : (why : StepRejection) → before.halted ≡ false → step_rejection_at before input ≡ Some why → after ≡ before → outputs ≡ [] → Answers input before after outputs
    Steps : before.halted ≡ false → step_rejection_at before input ≡ None → IsTransition before (transition_of before input) outputs after
        → (tapes.durable → tapes.content after.tape ≡ tapes.content before.tape ++ bytes_of (transition_of before input).entry) → Answers input before after outputs
    Fails : before.halted ≡ false → step_rejection_at before input ≡ None → after.halted ≡ true → IsSameNode before after → after.failed ≡ (transition_of before input).entry
        → (tapes.durable → IsExtended (tapes.content before.tape) (bytes_of (transition_of before input).entry) (tapes.content after.tape))
        → (tapes.durable → EachStandsFor (stored_of before) (store (stored_of before) (transition_of before input).entry) (tapes.images after.tape)) → outputs ≡ [] → Answers input before after outputs

  -- What it does with an input, by whether that is lost.
  abbrev pub Takes : Bool → Input Definition → Node T → Node T → List Message → Type 0
  Takes false input before after outputs = Answers input before after outputs
  Takes true input before after outputs = IsInputLost before after outputs

  -- Where the tape won't fail, a node that isn't halted still isn't, and the tape still won't.
  abbrev pub IsSturdy : Node T → Node T → Type 0
  IsSturdy before after = tapes.never_fails before.tape → before.halted ≡ false → (after.halted ≡ false) × tapes.never_fails after.tape

  -- A tape that failed within a step was cut within the step's record, or behind it.
  abbrev pub IsCutWithin : Input Definition → Node T → Node T → Type 0
  IsCutWithin input before after = before.halted ≡ false → after.halted ≡ true →
      EachIsCut (entry_of before input) (stored_of before) (stored_next before input) (tapes.images before.tape) (tapes.images after.tape)
