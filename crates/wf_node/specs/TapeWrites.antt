-- The effect of writing a record on the tape, and of replacing all of them.
use Rattle.std.specs.Prelude.{◌≡◌, ℕ, true, false, List, [], ◌++◌, Option, Some, None, Result, Ok, Err, IsSome}
use Rattle.wf_def.specs.Definition.{Definition}
use Rattle.wf_model.specs.Fits.{Fits}
use Rattle.wf_model.specs.DurableState.{DurableState, Record}
use Rattle.wf_model.specs.Table.{store}
use Rattle.wf_journal.specs.Journal.{Journal, Holds, Follows, IsSameOrReads}
use Rattle.wf_journal.specs.Encoding.{spelling}
use Rattle.wf_tape.specs.Change.{inside, Stays, HasFailed}
use Rattle.wf_tape.specs.Tape.{IsExtended}
use Rattle.wf_node.specs.declared.fault.NodeFault.{NodeFault}
use Rattle.wf_node.specs.declared.fault.NodeFault.TheVariants.{Memory, Busy, SequenceFull, RoundsFull, Halted, TapeFailed, Nothing}
use Rattle.wf_node.specs.Images.{AllStandFor, EachStandsFor, EachIsCut}
use Rattle.wf_tape.specs.declared.tape.Tape.{Ghosts as Tape}

-- the bytes of a transition's record, none if it has no record
abbrev pub bytes_of : Option (Record Definition) → List ℕ
bytes_of None = []
bytes_of (Some r) = spelling r

-- the journal once it keeps the record that wasn't stored, which it does if the tape failed
abbrev pub keeping : {T : Type 0} → NodeFault → Option (Record Definition) → Journal T → Journal T
keeping TapeFailed entry journal = record journal { failed = entry }
keeping Memory entry journal = journal
keeping Busy entry journal = journal
keeping SequenceFull entry journal = journal
keeping RoundsFull entry journal = journal
keeping Halted entry journal = journal
keeping Nothing entry journal = journal

-- If the old images stand for a durable state that the record fits, the new ones stand for that
-- part with the record.
abbrev pub IsStoredBy : Option (Record Definition) → (List ℕ → Type 0) → (List ℕ → Type 0) → Type 0
IsStoredBy entry old new = (stored : DurableState Definition) → Fits stored entry → AllStandFor stored old → AllStandFor (store stored entry) new

-- Each stands for the durable state with the record or without it.
abbrev pub IsTornAt : Option (Record Definition) → (List ℕ → Type 0) → (List ℕ → Type 0) → Type 0
IsTornAt entry old new = (stored : DurableState Definition) → Fits stored entry → AllStandFor stored old → EachStandsFor stored (store stored entry) new

-- Each is cut within the record or behind it.
abbrev pub IsCutAt : Option (Record Definition) → (List ℕ → Type 0) → (List ℕ → Type 0) → Type 0
IsCutAt entry old new = (stored : DurableState Definition) → Fits stored entry → AllStandFor stored old → EachIsCut entry stored (store stored entry) old new

module _ {T : Type 0} (tapes : Tape T) where
  -- the record, if there is one, is on the tape
  pub record IsWritten (entry : Option (Record Definition)) (old new : Journal T) : Type 0 where
    pub running : new.halted ≡ false
    pub grown : tapes.durable → tapes.content new.tape ≡ tapes.content old.tape ++ bytes_of entry
    pub stored : tapes.durable → IsStoredBy entry (tapes.images old.tape) (tapes.images new.tape)
    pub moments : tapes.durable → IsTornAt entry (inside tapes old.tape old.tape) (inside tapes old.tape new.tape)
    pub still : tapes.never_fails old.tape → tapes.never_fails new.tape

  -- allocation failed: the tape is unchanged
  pub record IsSpared (old new : Journal T) : Type 0 where
    pub running : new.halted ≡ false
    pub same : tapes.durable → Stays tapes old.tape new.tape
    pub still : tapes.never_fails old.tape → tapes.never_fails new.tape

  -- the tape failed, and there was a record to write: a prefix of its bytes is on the tape
  pub record IsWriteBroken (entry : Option (Record Definition)) (old new : Journal T) : Type 0 where
    pub entry_is : IsSome entry
    pub halted : new.halted ≡ true
    pub risen : HasFailed tapes old.tape new.tape
    pub part : tapes.durable → IsExtended (tapes.content old.tape) (bytes_of entry) (tapes.content new.tape)
    pub torn : tapes.durable → IsTornAt entry (tapes.images old.tape) (tapes.images new.tape)
    pub cut : tapes.durable → IsCutAt entry (tapes.images old.tape) (tapes.images new.tape)
    pub moments : tapes.durable → IsTornAt entry (inside tapes old.tape old.tape) (inside tapes old.tape new.tape)
    pub weak : tapes.never_fails old.tape → ⊥

  -- If there is no record, allocation doesn't fail.
  abbrev pub IsWrite : {A : Type 0} → Option (Record Definition) → Journal T → Result A NodeFault → Journal T → Type 0
  IsWrite entry old (Ok x) new = IsWritten entry old new
  IsWrite entry old (Err Memory) new = IsSpared old new × (entry ≡ None → ⊥) × (tapes.durable → IsTornAt entry (inside tapes old.tape old.tape) (inside tapes old.tape new.tape))
  IsWrite entry old (Err TapeFailed) new = IsWriteBroken entry old new
  IsWrite entry old (Err Busy) new = ⊥
  IsWrite entry old (Err SequenceFull) new = ⊥
  IsWrite entry old (Err RoundsFull) new = ⊥
  IsWrite entry old (Err Halted) new = ⊥
  IsWrite entry old (Err Nothing) new = ⊥

  -- the tape holds exactly these records
  pub record IsReplaced (records : List (Record Definition)) (old new : Journal T) : Type 0 where
    pub running : new.halted ≡ false
    pub held : tapes.durable → Holds (tapes.content new.tape) (tapes.images new.tape) records
    pub follows : tapes.durable → Follows (IsSameOrReads records) (tapes.images old.tape) (tapes.images new.tape)
    pub still : tapes.never_fails old.tape → tapes.never_fails new.tape

  -- the tape failed: a crash leaves what it held, or these records
  pub record IsHalfReplaced (records : List (Record Definition)) (old new : Journal T) : Type 0 where
    pub halted : new.halted ≡ true
    pub risen : HasFailed tapes old.tape new.tape
    pub follows : tapes.durable → Follows (IsSameOrReads records) (tapes.images old.tape) (tapes.images new.tape)
    pub weak : tapes.never_fails old.tape → ⊥

  -- At each moment inside the call a crash leaves what one could before it, or these records.
  abbrev pub LeavesOldOrRecords : List (Record Definition) → Journal T → Journal T → Type 0
  LeavesOldOrRecords records old new = tapes.durable → Follows (IsSameOrReads records) (tapes.images old.tape) (inside tapes old.tape new.tape)

  abbrev pub IsReplacement : {A : Type 0} → List (Record Definition) → Journal T → Result A NodeFault → Journal T → Type 0
  IsReplacement records old (Ok x) new = IsReplaced records old new
  IsReplacement records old (Err Memory) new = IsSpared old new
  IsReplacement records old (Err TapeFailed) new = IsHalfReplaced records old new
  IsReplacement records old (Err Busy) new = ⊥
  IsReplacement records old (Err SequenceFull) new = ⊥
  IsReplacement records old (Err RoundsFull) new = ⊥
  IsReplacement records old (Err Halted) new = ⊥
  IsReplacement records old (Err Nothing) new = ⊥
