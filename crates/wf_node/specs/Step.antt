-- The effect of a step on a node.
use Rattle.std.specs.Prelude.{◌≡◌, ◌≢◌, ◌++◌, true, false, List, map, Option, Result, Err, IfOk, IfErr, OnOk, IsSome, Vec}
use Rattle.wf_codec.specs.Message as message
use Rattle.wf_codec.specs.declared.message.Message.{Message}
use Rattle.wf_def.specs.Definition.{Definition}
use Rattle.wf_def.specs.Equality.{definition_eq}
use Rattle.wf_model.specs.DurableState.{DurableState, Record}
use Rattle.wf_model.specs.Table.{Transition, Input, StepRejection, transition, step_rejection, reject_proposal, reject_retry, store}
use Rattle.wf_tape.specs.Tape.{IsExtended}
use Rattle.wf_node.specs.declared.fault.NodeFault.{NodeFault}
use Rattle.wf_node.specs.declared.fault.NodeFault.TheVariants.{Memory, Halted, TapeFailed}
use Rattle.wf_node.specs.Fault.{rejected_by}
use Rattle.wf_node.specs.Images.{EachStandsFor}
use Rattle.wf_node.specs.Fault as memory
use Rattle.wf_node.specs.Node.{Node, stored_of, volatile_of, IsOnTape}
use Rattle.wf_node.specs.TapeWrites.{bytes_of}
use Rattle.wf_tape.specs.Change.{Stays, HasFailed}
use Rattle.wf_tape.specs.declared.tape.Tape.{Ghosts as Tape}

-- the table's transition of the input at this node, and the table's rejection
abbrev pub transition_of : {T : Type 0} → Node T → Input Definition → Transition Definition
transition_of node input = transition definition_eq node.n node.id (stored_of node) (volatile_of node) input

abbrev pub step_rejection_at : {T : Type 0} → Node T → Input Definition → Option StepRejection
step_rejection_at node input = step_rejection (stored_of node) (volatile_of node) input

-- the record that the transition stores, if it stores one, and what is stored after it
abbrev pub entry_of : {T : Type 0} → Node T → Input Definition → Option (Record Definition)
entry_of node input = (transition_of node input).entry

abbrev pub stored_next : {T : Type 0} → Node T → Input Definition → DurableState Definition
stored_next node input = store (stored_of node) (entry_of node input)

-- the table's rejection of a proposal at this node, whichever map it proposes, and of a retry
abbrev pub proposal_step_rejection : {T : Type 0} → Node T → Option StepRejection
proposal_step_rejection node = reject_proposal (stored_of node) (volatile_of node).leadership (volatile_of node).proposing

abbrev pub retry_step_rejection : {T : Type 0} → Node T → Option StepRejection
retry_step_rejection node = reject_retry (stored_of node) (volatile_of node).proposing

-- The node after a transition: the durable state includes the transition's record, the volatile
-- state is the transition's, and exactly its messages are returned.
pub record IsTransition {T : Type 0} (before : Node T) (the_transition : Transition Definition) (sent : List Message) (after : Node T) : Type 0 where
  pub id : after.id ≡ before.id
  pub n : after.n ≡ before.n
  pub running : after.halted ≡ false
  pub stored : stored_of after ≡ store (stored_of before) the_transition.entry
  pub volatile : volatile_of after ≡ the_transition.volatile
  pub messages : map message.view sent ≡ the_transition.messages

-- the node is unchanged except for its tape, and what it keeps of a failure of it
abbrev pub IsSameNode : {T : Type 0} → Node T → Node T → Type 0
IsSameNode before after = after ≡ record before { tape = after.tape; halted = after.halted; failed = after.failed }

-- the input may allocate at this node: its transition stores or sends something
abbrev pub TakesMemory : {T : Type 0} → Node T → Input Definition → Type 0
TakesMemory node input = memory.TakesMemory (transition_of node input)

module _ {T : Type 0} (tapes : Tape T) where
  -- The contract of a step of a node that isn't halted, clause by clause.
  pub record IsStep {A : Type 0} (before : Node T) (input : Input Definition) (result : Result (Vec Message A) NodeFault) (after : Node T) : Type 0 where
    pub running : result ≢ Err Halted
    pub refused : rejected_by result ≡ step_rejection_at before input
    pub done : IfOk result (λ messages. IsTransition before (transition_of before input) messages.items after)
    pub on_tape : tapes.durable → OnOk result (IsOnTape tapes after)
    pub grown : tapes.durable → OnOk result (tapes.content after.tape ≡ tapes.content before.tape ++ bytes_of (entry_of before input))
    pub unchanged : IfErr result (λ fault. fault ≢ Memory → fault ≢ TapeFailed → after ≡ before)
    pub same : IfErr result (λ fault. IsSameNode before after)
    pub still_running : result ≡ Err Memory → after.halted ≡ false
    pub same_tape : tapes.durable → result ≡ Err Memory → Stays tapes before.tape after.tape
    pub takes : result ≡ Err Memory → TakesMemory before input
    pub failed : result ≡ Err TapeFailed → HasFailed tapes before.tape after.tape
    pub writes : result ≡ Err TapeFailed → IsSome (entry_of before input)
    pub halts : result ≡ Err TapeFailed → after.halted ≡ true
    pub kept : result ≡ Err TapeFailed → after.failed ≡ entry_of before input
    pub part : tapes.durable → result ≡ Err TapeFailed → IsExtended (tapes.content before.tape) (bytes_of (entry_of before input)) (tapes.content after.tape)
    pub torn : tapes.durable → result ≡ Err TapeFailed → EachStandsFor (stored_of before) (stored_next before input) (tapes.images after.tape)
