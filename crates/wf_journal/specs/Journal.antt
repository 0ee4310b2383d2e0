-- A journal over a tape: whole records, all of them synced, and the effect of each call on them.
use Rattle.std.specs.Prelude.{◌≡◌, ◌⊎◌, ℕ, Bool, List, [], ◌∷◌, ◌++◌, drop, Option}
use Rattle.wf_model.specs.DurableState.{Record}
use Rattle.wf_def.specs.Definition.{Definition}
use Rattle.wf_journal.specs.declared.open_error.OpenFault.{OpenFault}
use Rattle.wf_journal.specs.declared.open_error.OpenFault.TheVariants.{TapeFailed, BadRecord}
use Rattle.wf_tape.specs.Tape.{IsOnlyImage, HasRisen}
use Rattle.wf_tape.specs.Change.{inside}
use Rattle.wf_tape.specs.declared.tape.Tape.{Ghosts as Tape}
use Rattle.wf_journal.specs.Encoding.{Spells}
use Rattle.wf_journal.specs.Records.{Splits, ReadsAs, AreRecords, AreWritten, IsBad}

-- the model of a journal: its tape, whether it is halted, and the record that it keeps of a failure
pub record Journal (T : Type 0) : Type 0 where
  pub tape : T
  pub halted : Bool
  pub failed : Option (Record Definition)

-- the model of a tape that was read: the tape, the bytes that were read, and how many of them are
-- the records'
pub record Found (T : Type 0) : Type 0 where
  pub tape : T
  pub bytes : List ℕ
  pub front : ℕ

-- the bytes are a tape's content, which is one of its images
pub record IsContent (bytes content : List ℕ) (images : List ℕ → Type 0) : Type 0 where
  pub same : bytes ≡ content
  pub is_image : images content

-- The tape holds exactly these records, in whatever versions, and they are its only image.
pub record HoldsRecords (content : List ℕ) (images : List ℕ → Type 0) (records : List (Record Definition)) : Type 0 where
  pub are_records : AreRecords content records
  pub only : IsOnlyImage content images

-- The tape holds exactly these records, each as it is written, and they are its only image.
pub record Holds (content : List ℕ) (images : List ℕ → Type 0) (records : List (Record Definition)) : Type 0 where
  pub are_written : AreWritten content records
  pub only : IsOnlyImage content images

-- the tape holds only whole records, all of them synced
abbrev pub IsSettled : List ℕ → (List ℕ → Type 0) → Type 0
IsSettled content images = (records : List (Record Definition)) × HoldsRecords content images records

-- each new image comes from an old one by the step
abbrev pub Follows : (List ℕ → List ℕ → Type 0) → (List ℕ → Type 0) → (List ℕ → Type 0) → Type 0
Follows step old new = (image : List ℕ) → new image → (earlier : List ℕ) × old earlier × step earlier image

-- each image reads as these records
abbrev pub AllReadAs : (List ℕ → Type 0) → List (Record Definition) → Type 0
AllReadAs images records = (image : List ℕ) → images image → ReadsAs image records

-- the second bytes read as the same records as the first
abbrev pub ReadsSame : List ℕ → List ℕ → Type 0
ReadsSame old new = (records : List (Record Definition)) → ReadsAs old records → ReadsAs new records

-- the second bytes read as the records of the first with one more
abbrev pub ReadsOneMore : Record Definition → List ℕ → List ℕ → Type 0
ReadsOneMore r old new = (records : List (Record Definition)) → ReadsAs old records → ReadsAs new (records ++ r ∷ [])

-- the second bytes read as the records of the first, or with one more
abbrev pub ReadsSameOrOneMore : Record Definition → List ℕ → List ℕ → Type 0
ReadsSameOrOneMore r old new = (records : List (Record Definition)) → ReadsAs old records → ReadsAs new records ⊎ ReadsAs new (records ++ r ∷ [])

-- the second bytes are the first, or exactly these records
abbrev pub IsSameOrRecords : List (Record Definition) → List ℕ → List ℕ → Type 0
IsSameOrRecords records old new = (new ≡ old) ⊎ AreRecords new records

-- the second bytes are the first, or read as these records
abbrev pub IsSameOrReads : List (Record Definition) → List ℕ → List ℕ → Type 0
IsSameOrReads records old new = (new ≡ old) ⊎ ReadsAs new records

-- the second bytes are the first, or exactly these records, each as it is written
abbrev pub IsSameOrWritten : List (Record Definition) → List ℕ → List ℕ → Type 0
IsSameOrWritten records old new = (new ≡ old) ⊎ AreWritten new records

-- Each image is one from before, or exactly these records, each as it is written.
abbrev pub LeavesOldOrWritten : List (Record Definition) → (List ℕ → Type 0) → (List ℕ → Type 0) → Type 0
LeavesOldOrWritten records old new = (image : List ℕ) → new image → old image ⊎ AreWritten image records

-- the new content is the old one followed by the record's bytes, and that is its only image
pub record IsAdded (r : Record Definition) (old new : List ℕ) (images : List ℕ → Type 0) : Type 0 where
  pub spelled : List ℕ
  pub spells : Spells r spelled
  pub content : new ≡ old ++ spelled
  pub only : IsOnlyImage new images

-- at this byte offset, after whole records, the content is bad
abbrev pub IsBadAt : List ℕ → ℕ → Type 0
IsBadAt content offset = (records : List (Record Definition)) × Splits content records (drop offset content) × IsBad (drop offset content)

-- a bad record is returned only if there is one at that byte offset
abbrev pub IsWhereBad : OpenFault → List ℕ → Type 0
IsWhereBad (BadRecord offset) content = IsBadAt content offset
IsWhereBad fault content = Unit {0}

-- the error isn't a bad record
abbrev pub IsNotBad : OpenFault → Type 0
IsNotBad (BadRecord offset) = ⊥
IsNotBad fault = Unit {0}

-- the tape's failure is returned only if the count of failures rose
abbrev pub IsWhyFailed : OpenFault → ℕ → ℕ → Type 0
IsWhyFailed TapeFailed before now = HasRisen before now
IsWhyFailed fault before now = Unit {0}

-- ---- the same of a tape

-- the tape holds exactly these records, in whatever versions, all of them synced
abbrev pub TapeHolds : {T : Type 0} → Tape T → T → List (Record Definition) → Type 0
TapeHolds tapes tape records = HoldsRecords (tapes.content tape) (tapes.images tape) records

-- the same, each as it is written
abbrev pub TapeHoldsWritten : {T : Type 0} → Tape T → T → List (Record Definition) → Type 0
TapeHoldsWritten tapes tape records = Holds (tapes.content tape) (tapes.images tape) records

-- the tape holds only whole records, all of them synced
abbrev pub TapeIsSettled : {T : Type 0} → Tape T → T → Type 0
TapeIsSettled tapes tape = IsSettled (tapes.content tape) (tapes.images tape)

-- each image of the tape reads as these records
abbrev pub TapeReadsAs : {T : Type 0} → Tape T → T → List (Record Definition) → Type 0
TapeReadsAs tapes tape records = AllReadAs (tapes.images tape) records

-- the record's bytes were appended, and the content is the only image
abbrev pub TapeGrows : {T : Type 0} → Record Definition → Tape T → T → T → Type 0
TapeGrows r tapes old new = IsAdded r (tapes.content old) (tapes.content new) (tapes.images new)

-- what a crash may leave after a call comes, by the step, from what one could leave before it
abbrev pub LeavesBy : {T : Type 0} → (List ℕ → List ℕ → Type 0) → Tape T → T → T → Type 0
LeavesBy step tapes old new = Follows step (tapes.images old) (tapes.images new)

-- and so does what a crash inside the call could have left
abbrev pub LeavesInsideBy : {T : Type 0} → (List ℕ → List ℕ → Type 0) → Tape T → T → T → Type 0
LeavesInsideBy step tapes old new = Follows step (tapes.images old) (inside tapes old new)
