-- The model of a node: its tape, its number, and its stored and volatile state.
use Rattle.std.specs.Prelude.{◌≡◌, ℕ, Bool, false, Option}
use Rattle.wf_def.specs.Definition.{Definition}
use Rattle.wf_model.specs.Fits.{IsForNext}
use Rattle.wf_model.specs.DurableState.{DurableState, Record}
use Rattle.wf_model.specs.VolatileState as model
use Rattle.wf_proposer.specs.Proposer as proposer
use Rattle.wf_proposer.specs.Proposer.{Proposer}
use Rattle.wf_journal.specs.Journal.{Journal}
use Rattle.wf_node.specs.Images.{AllStandFor}
use Rattle.wf_node.specs.DurablePart as keeping
use Rattle.wf_node.specs.DurablePart.{DurablePart}
use Rattle.wf_node.specs.Parts as parts
use Rattle.wf_node.specs.Parts.{Parts}
use Rattle.wf_node.specs.VolatileState as shown
use Rattle.wf_node.specs.VolatileState.{VolatileState}
use Rattle.wf_tape.specs.declared.tape.Tape.{Ghosts as Tape}

-- A node of n. If it is halted, its tape failed, and it makes no more steps; it keeps the record of
-- the step within which that was.
pub record Node (T : Type 0) : Type 0 where
  pub tape : T
  pub halted : Bool
  pub failed : Option (Record Definition)
  pub id : ℕ
  pub n : ℕ
  pub parts : Parts
  pub volatile : VolatileState

-- its stored and its volatile state, as in wf_model
abbrev pub stored_of : {T : Type 0} → Node T → DurableState Definition
stored_of node = parts.stored_of node.parts

abbrev pub volatile_of : {T : Type 0} → Node T → model.VolatileState Definition
volatile_of node = shown.volatile_of node.volatile

-- its durable state is on its tape: each image stands for it
abbrev pub IsOnTape : {T : Type 0} → Tape T → Node T → Type 0
IsOnTape tapes node = AllStandFor (stored_of node) (tapes.images node.tape)

-- the node of these parts
abbrev pub view_of : {T : Type 0} → Journal T → Parts → Proposer → Node T
view_of journal persistent_parts proposes =
    record {
      tape = journal.tape;
      halted = journal.halted;
      failed = journal.failed;
      id = proposes.node;
      n = proposes.nodes;
      parts = persistent_parts;
      volatile = shown.shown proposes.volatile;
    }

-- The invariant of nodes: its durable state and its proposer are of the same node, a running
-- proposal is for the next sequence, and if the journal runs, every image of a durable tape stands
-- for the durable state.
pub record IsSoundNode {T : Type 0} (tapes : Tape T) (journal : Journal T) (persistent : DurablePart) (proposes : Proposer) : Type 0 where
  pub same_node : persistent.id ≡ proposes.node
  pub for_next : IsForNext (keeping.stored_of persistent) (proposer.volatile_of proposes).proposing
  pub stands : tapes.durable → journal.halted ≡ false → AllStandFor (keeping.stored_of persistent) (tapes.images journal.tape)
