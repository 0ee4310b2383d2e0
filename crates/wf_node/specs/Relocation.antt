-- A node that moves from one tape to another, whose content its records replace.
use Rattle.std.specs.Prelude.{◌≡◌, ◌≢◌, ◌⊎◌, ℕ, true, false, List, [], None}
use Rattle.wf_def.specs.Definition.{Definition}
use Rattle.wf_model.specs.DurableState.{DurableState, Record}
use Rattle.wf_journal.specs.Encoding.{spellings}
use Rattle.wf_journal.specs.Journal.{Journal, Holds, LeavesOldOrWritten}
use Rattle.wf_journal.specs.Records.{IsTapeOf}
use Rattle.wf_tape.specs.Change.{inside, Stays, HasFailed}
use Rattle.wf_tape.specs.declared.tape.Tape.{Ghosts as Tape}
use Rattle.wf_node.specs.declared.fault.NodeFault.{NodeFault}
use Rattle.wf_node.specs.declared.fault.NodeFault.TheVariants.{Halted, TapeFailed}
use Rattle.wf_node.specs.Compaction.{short_records}
use Rattle.wf_node.specs.Fault.{step_rejection_of}
use Rattle.wf_node.specs.Images.{StandsFor}
use Rattle.wf_node.specs.Node.{Node, stored_of, volatile_of, IsOnTape}
use Rattle.wf_node.specs.OpenedNode.{IsRead}

-- each image is one from before, or stands for this
abbrev pub LeavesOldOrStands : DurableState Definition → (List ℕ → Type 0) → (List ℕ → Type 0) → Type 0
LeavesOldOrStands stored old new = (image : List ℕ) → new image → old image ⊎ StandsFor stored image

module _ {U : Type 0} (tapes : Tape U) where
  -- The node is the old one, on the tape, which holds the records of what it has stored, as a
  -- shortened tape does, in place of what was there. Of any tape: the bytes that were written stand
  -- for what it has stored.
  pub record IsMoved {T : Type 0} (old : Node T) (tape : U) (node : Node U) : Type 0 where
    pub ran : old.halted ≡ false
    pub id : node.id ≡ old.id
    pub n : node.n ≡ old.n
    pub runs : node.halted ≡ false
    pub unfailed : node.failed ≡ None
    pub stored : stored_of node ≡ stored_of old
    pub volatile : volatile_of node ≡ volatile_of old
    pub found : IsRead tapes.durable (tapes.content node.tape) (stored_of node)
    pub held : tapes.durable → Holds (tapes.content node.tape) (tapes.images node.tape) (short_records (stored_of old))
    pub stands : tapes.durable → IsOnTape tapes node
    pub moments : tapes.durable → LeavesOldOrStands (stored_of old) (tapes.images tape) (inside tapes tape node.tape)
    pub still : tapes.never_fails tape → tapes.never_fails node.tape

  -- The node didn't move, and this is the tape that is returned. If the tape failed, it has what it
  -- had, or stands for what the node had stored; else it is unchanged.
  pub record IsNotMoved {T : Type 0} (old : Node T) (tape back : U) (fault : NodeFault) : Type 0 where
    pub halted : old.halted ≡ true → fault ≡ Halted
    pub running : fault ≡ Halted → old.halted ≡ true
    pub refused : step_rejection_of fault ≡ None
    pub images : tapes.durable → LeavesOldOrStands (stored_of old) (tapes.images tape) (tapes.images back)
    pub moments : tapes.durable → LeavesOldOrStands (stored_of old) (tapes.images tape) (inside tapes tape back)
    pub same_tape : tapes.durable → fault ≢ TapeFailed → Stays tapes tape back
    pub failed : fault ≡ TapeFailed → HasFailed tapes tape back
    pub still : tapes.never_fails tape → tapes.never_fails back
    pub sound : tapes.never_fails tape → fault ≢ TapeFailed

  -- ---- used only in this crate's contracts: a journal begins on the tape

  -- The journal begins with these records on the tape.
  pub record IsBegunWith (records : List (Record Definition)) (tape : U) (journal : Journal U) : Type 0 where
    pub running : journal.halted ≡ false
    pub unfailed : journal.failed ≡ None
    pub held : tapes.durable → Holds (tapes.content journal.tape) (tapes.images journal.tape) records
    pub written : IsTapeOf (spellings records) records []
    pub moments : tapes.durable → LeavesOldOrWritten records (tapes.images tape) (inside tapes tape journal.tape)
    pub still : tapes.never_fails tape → tapes.never_fails journal.tape

  -- It doesn't, and this is the tape that is returned.
  pub record IsNotBegunWith (records : List (Record Definition)) (tape back : U) (fault : NodeFault) : Type 0 where
    pub running : fault ≢ Halted
    pub refused : step_rejection_of fault ≡ None
    pub images : tapes.durable → LeavesOldOrWritten records (tapes.images tape) (tapes.images back)
    pub moments : tapes.durable → LeavesOldOrWritten records (tapes.images tape) (inside tapes tape back)
    pub same_tape : tapes.durable → fault ≢ TapeFailed → Stays tapes tape back
    pub failed : fault ≡ TapeFailed → HasFailed tapes tape back
    pub still : tapes.never_fails tape → tapes.never_fails back
    pub sound : tapes.never_fails tape → fault ≢ TapeFailed
