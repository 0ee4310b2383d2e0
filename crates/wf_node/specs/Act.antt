-- The effect of an input on the parts of a node.
use Rattle.std.specs.Prelude.{◌≡◌, ℕ, Bool, true, false, ⊤, List, [], map, Option, Some, None, Result, Ok, Err, Vec, if◌then◌else◌}
use Rattle.wf_codec.specs.Message as message
use Rattle.wf_codec.specs.declared.message.Message.{Message}
use Rattle.wf_def.specs.Definition.{Definition}
use Rattle.wf_def.specs.Equality.{definition_eq}
use Rattle.wf_model.specs.Fits.{IsForNext, RecordsFit}
use Rattle.wf_model.specs.Message as model
use Rattle.wf_model.specs.DurableState as model_stored
use Rattle.wf_model.specs.DurableState.{Record}
use Rattle.wf_model.specs.Table.{Transition, Input, StepRejection, transition, step_rejection, store, after_publishing}
use Rattle.wf_model.specs.VolatileState as model_volatile
use Rattle.wf_proposer.specs.Proposer.{Proposer, runs_for, volatile_of}
use Rattle.wf_journal.specs.Journal.{Journal}
use Rattle.wf_journal.specs.declared.record.Record as tape
use Rattle.wf_journal.specs.declared.record.Record.TheVariants as tape_case
use Rattle.wf_node.specs.declared.machine.Machine.{Machine}
use Rattle.wf_node.specs.declared.fault.NodeFault.{NodeFault}
use Rattle.wf_node.specs.declared.fault.NodeFault.TheVariants.{Memory, Busy, SequenceFull, RoundsFull, Halted, TapeFailed, Nothing}
use Rattle.wf_node.specs.Fault.{rejected_by, TakesMemory}
use Rattle.wf_node.specs.DurablePart as keeping
use Rattle.wf_node.specs.Parts.{Parts, stored_of}
use Rattle.wf_node.specs.TapeWrites.{IsTornAt, IsWritten, IsSpared, IsWriteBroken}
use Rattle.wf_tape.specs.Change.{inside}
use Rattle.wf_tape.specs.declared.tape.Tape.{Ghosts as Tape}

-- The parts of a node that may act: its journal runs, its durable state and its proposer are of the
-- same node, a running proposal is for the next sequence, and, as wf_model's theorem says, each
-- transition's record fits then.
pub record IsReady {T : Type 0} (machine : Machine T) : Type 0 where
  pub running : machine.journal.halted ≡ false
  pub same_node : machine.persistent.id ≡ machine.proposer.node
  pub for_next : IsForNext (keeping.stored_of machine.persistent) (volatile_of machine.proposer).proposing
  pub fits : RecordsFit Definition

-- The messages, or allocation failure, which is possible only if there are some.
abbrev pub IsStepReply : {A : Type 0} → List (model.Message Definition) → Result (Vec Message A) NodeFault → Type 0
IsStepReply messages (Ok given) = map message.view given.items ≡ messages
IsStepReply messages (Err Memory) = messages ≡ [] → ⊥
IsStepReply messages (Err TapeFailed) = ⊥
IsStepReply messages (Err Busy) = ⊥
IsStepReply messages (Err SequenceFull) = ⊥
IsStepReply messages (Err RoundsFull) = ⊥
IsStepReply messages (Err Halted) = ⊥
IsStepReply messages (Err Nothing) = ⊥

-- whether a proposal runs
abbrev pub runs : model_volatile.Proposing Definition → Bool
runs model_volatile.Idle = false
runs (model_volatile.Running proposal) = true
runs (model_volatile.Won s) = false
runs (model_volatile.Overtaken s) = false

-- a record that a proposer may store, or none
abbrev pub IsOwnRecord : Option (Record Definition) → Type 0
IsOwnRecord None = ⊤
IsOwnRecord (Some (model_stored.Tried round)) = ⊤
IsOwnRecord (Some (model_stored.Promised s b)) = ⊥
IsOwnRecord (Some (model_stored.Accepted s b d)) = ⊥
IsOwnRecord (Some (model_stored.Published s d)) = ⊤

-- A definition is published at the slot: a running proposal for the slot ends. A leadership stays.
pub record IsEndedAt (s : ℕ) (d : Definition) (before after : Proposer) : Type 0 where
  pub node : after.node ≡ before.node
  pub nodes : after.nodes ≡ before.nodes
  pub volatile : volatile_of after ≡ (if runs_for s (volatile_of before).proposing then after_publishing definition_eq (volatile_of before) d else volatile_of before)

-- the effect of a published definition's record on a proposer
abbrev pub IsProposalEnded : tape.Record → Proposer → Proposer → Type 0
IsProposalEnded (tape_case.Tried round) before after = after ≡ before
IsProposalEnded (tape_case.Promised s b) before after = after ≡ before
IsProposalEnded (tape_case.Accepted s b d) before after = after ≡ before
IsProposalEnded (tape_case.Published s d) before after = IsEndedAt s d before after

-- the durable state, the proposer and the messages are those of the transition
pub record IsTransitionOf (the_transition : Transition Definition) (old new : Parts) (before after : Proposer) (sent : List Message) : Type 0 where
  pub stored : stored_of new ≡ store (stored_of old) the_transition.entry
  pub node : after.node ≡ before.node
  pub nodes : after.nodes ≡ before.nodes
  pub volatile : volatile_of after ≡ the_transition.volatile
  pub messages : map message.view sent ≡ the_transition.messages

-- the durable state and the proposer are unchanged
pub record IsSame (old new : Parts) (before after : Proposer) : Type 0 where
  pub parts : new ≡ old
  pub proposer : after ≡ before

module _ {T : Type 0} (tapes : Tape T) where
  -- the transition is made, or an error leaves the parts unchanged
  abbrev pub IsChange : {A : Type 0} → Transition Definition → Journal T → Parts → Proposer → Result (Vec Message A) NodeFault → Journal T → Parts → Proposer → Type 0
  IsChange the_transition journal parts proposer (Ok messages) journal_after parts_after proposer_after =
      IsWritten tapes the_transition.entry journal journal_after × IsTransitionOf the_transition parts parts_after proposer proposer_after messages.items
  IsChange the_transition journal parts proposer (Err Memory) journal_after parts_after proposer_after =
      IsSpared tapes journal journal_after × IsSame parts parts_after proposer proposer_after × TakesMemory the_transition ×
      (tapes.durable → IsTornAt the_transition.entry (inside tapes journal.tape journal.tape) (inside tapes journal.tape journal_after.tape))
  IsChange the_transition journal parts proposer (Err TapeFailed) journal_after parts_after proposer_after =
      IsWriteBroken tapes the_transition.entry journal journal_after × IsSame parts parts_after proposer proposer_after × (journal_after.failed ≡ the_transition.entry)
  IsChange the_transition journal parts proposer (Err Busy) journal_after parts_after proposer_after = ⊥
  IsChange the_transition journal parts proposer (Err SequenceFull) journal_after parts_after proposer_after = ⊥
  IsChange the_transition journal parts proposer (Err RoundsFull) journal_after parts_after proposer_after = ⊥
  IsChange the_transition journal parts proposer (Err Nothing) journal_after parts_after proposer_after = ⊥
  IsChange the_transition journal parts proposer (Err Halted) journal_after parts_after proposer_after = ⊥

  -- If the table rejects the input, that rejection is returned and the parts are unchanged; else
  -- the transition is made or fails.
  abbrev pub IsRejectedOr : {A : Type 0} → Option StepRejection → Transition Definition → Journal T → Parts → Proposer → Result (Vec Message A) NodeFault → Journal T → Parts → Proposer → Type 0
  IsRejectedOr None the_transition journal parts proposer result journal_after parts_after proposer_after =
      IsChange the_transition journal parts proposer result journal_after parts_after proposer_after
  IsRejectedOr (Some why) the_transition journal parts proposer result journal_after parts_after proposer_after =
      (rejected_by result ≡ Some why) × (journal_after ≡ journal) × IsSame parts parts_after proposer proposer_after

  -- the input's step at these parts
  abbrev pub IsStepAtParts : {A : Type 0} → Input Definition → Journal T → Parts → Proposer → Result (Vec Message A) NodeFault → Journal T → Parts → Proposer → Type 0
  IsStepAtParts input journal parts proposer result journal_after parts_after proposer_after =
      IsRejectedOr (step_rejection (stored_of parts) (volatile_of proposer) input)
      (transition definition_eq proposer.nodes proposer.node (stored_of parts) (volatile_of proposer) input) journal parts proposer result journal_after parts_after proposer_after

  -- The parts of a node made the transition, or an error left them unchanged; and they made the
  -- input's step.
  abbrev pub Changes : {A : Type 0} → Transition Definition → Machine T → Result (Vec Message A) NodeFault → Machine T → Type 0
  Changes the_transition before result after =
      IsChange the_transition before.journal before.persistent.parts before.proposer result after.journal after.persistent.parts after.proposer

  abbrev pub Acts : {A : Type 0} → Input Definition → Machine T → Result (Vec Message A) NodeFault → Machine T → Type 0
  Acts input before result after =
      IsStepAtParts input before.journal before.persistent.parts before.proposer result after.journal after.persistent.parts after.proposer
