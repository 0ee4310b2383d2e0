-- A node that is opened on its tape, and the tape's shortening.
use Rattle.std.specs.Prelude.{◌≡◌, ◌⊎◌, Bool, true, false}
use Rattle.wf_def.specs.Definition.{Definition}
use Rattle.wf_model.specs.DurableState.{DurableState}
use Rattle.wf_model.specs.VolatileState.{at_start}
use Rattle.wf_node.specs.Images.{AllStandFor}
use Rattle.wf_node.specs.Node.{Node, stored_of, volatile_of}
use Rattle.wf_node.specs.OpenedNode.{IsFoldOf}
use Rattle.wf_node.specs.Compaction.{short_records}
use Rattle.wf_journal.specs.Journal.{Follows, Holds, ReadsSame}
use Rattle.wf_tape.specs.declared.tape.Tape.{Ghosts as Tape}

module _ {T : Type 0} (tapes : Tape T) where
  -- If the tape is shortened, it holds exactly the records of a shortened tape for what the node
  -- has stored, all synced.
  abbrev pub IsShort : Node T → Bool → Type 0
  IsShort node is_short = is_short ≡ true → Holds (tapes.content node.tape) (tapes.images node.tape) (short_records (stored_of node))

  -- What is left of a tape on which no node is open: each image reads as the records of one from
  -- before, or stands for what the tape's records fold to.
  abbrev pub IsTapeLeft : T → T → Type 0
  IsTapeLeft tape left = Follows ReadsSame (tapes.images tape) (tapes.images left)
      ⊎ ((stored : DurableState Definition) × IsFoldOf stored (tapes.content tape) × AllStandFor stored (tapes.images left))

  -- The node is open on the tape, with what its records fold to, no proposal and no leadership.
  -- Whether it is shortened or not, every image of a durable tape stands for that.
  pub record IsOpenOnTape (tape : T) (node : Node T) (is_short : Bool) : Type 0 where
    pub running : node.halted ≡ false
    pub volatile : volatile_of node ≡ at_start
    pub stored : tapes.durable → IsFoldOf (stored_of node) (tapes.content tape)
    pub stands : tapes.durable → AllStandFor (stored_of node) (tapes.images node.tape)
    pub short : tapes.durable → IsShort node is_short
