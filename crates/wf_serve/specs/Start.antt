-- A start of a farm on the folder of its tapes, by the calls of the folder, the latest first.
use Rattle.std.specs.Prelude.{◌≡◌, ◌≢◌, ◌≤◌, ◌<◌, ◌⊎◌, ℕ, zero, suc, true, false, List, ◌∷◌, Option, Some, None, length, slice_index_or}
use Rattle.wf_folder.specs.Admission.{IsStart}
use Rattle.wf_folder.specs.FarmFile.{IsFarmFile, farm_text}
use Rattle.wf_folder.specs.declared.admission.FoundFile.{FoundFile}
use Rattle.wf_folder.specs.declared.admission.FoundFile.TheVariants as finds
use Rattle.wf_folder.specs.declared.admission.Start.{Start}
use Rattle.wf_folder.specs.declared.admission.Start.TheVariants as starts
use Rattle.wf_folder.specs.declared.farm_file.Beginning.{Beginning}
use Rattle.wf_folder.specs.declared.farm_file.Beginning.TheVariants as beginnings
use Rattle.wf_folder.specs.declared.farm_file.FarmFile.{FarmFile}
use Rattle.wf_folder.specs.declared.presence.Presence.{Presence}
use Rattle.wf_folder.specs.declared.presence.Presence.TheVariants.{Absent}
use Rattle.wf_serve.specs.FailedCall.{IsCallCause, IsWhyStopped, is_early}
use Rattle.wf_serve.specs.TapeCheck.{AreTapesChecked}
use Rattle.wf_serve.specs.declared.event.Cause.{Cause}
use Rattle.wf_serve.specs.declared.event.Cause.TheVariants as causes
use Rattle.wf_serve.specs.declared.survey.Survey.{Survey}
use Rattle.wf_store.specs.Call.{Call, IsAfter, changes, drawn, failed_at, locked, opened, read, replaced, seen, unreplaced}
use Rattle.wf_store.specs.Fault.{IsWhyUnwritten}
use Rattle.wf_store.specs.declared.file_name.FileName.TheVariants.{Farm, NodeTape}

-- ---- what is in the folder

-- what the bytes say that were read of the file `farm`, if it is there
abbrev pub IsFarmFileFound : Option (List ℕ) → FoundFile → Type 0
IsFarmFileFound None finds.Nothing = Unit {0}
IsFarmFileFound None (finds.File file) = ⊥
IsFarmFileFound None (finds.Bad fault) = ⊥
IsFarmFileFound (Some bytes) finds.Nothing = ⊥
IsFarmFileFound (Some bytes) (finds.File file) = IsFarmFile file × (bytes ≡ farm_text file)
IsFarmFileFound (Some bytes) (finds.Bad fault) = (file : FarmFile) → IsFarmFile file → bytes ≢ farm_text file

-- The file `farm` was read: this was found.
pub record HasFound (found : FoundFile) (old new : List Call) : Type 0 where
  pub bytes : Option (List ℕ)
  pub says : IsFarmFileFound bytes found
  pub calls : new ≡ read Farm bytes ∷ old

-- whether the first tapes are there was seen in turn
unfoldable pub looks : List Presence → ℕ → List Call → List Call
looks tapes zero before = before
looks tapes (suc number) before = seen (NodeTape number) (slice_index_or tapes number Absent) ∷ looks tapes number before

-- Then whether each of 64 tapes is there was seen.
pub record IsSurveyed (survey : Survey) (old new : List Call) : Type 0 where
  pub middle : List Call
  pub found : HasFound survey.found old middle
  pub size : length survey.tapes ≡ 64
  pub seen : new ≡ looks survey.tapes 64 middle

-- ---- what is made of it

-- the tapes of the first nodes were opened in turn
unfoldable pub tape_opens : ℕ → List Call → List Call
tape_opens zero before = before
tape_opens (suc number) before = opened (NodeTape number) ∷ tape_opens number before

-- They were, and nothing else was changed.
pub record HaveOpened (count : ℕ) (old new : List Call) : Type 0 where
  pub after : IsAfter old new
  pub changed : changes new ≡ tape_opens count (changes old)

-- A mark was drawn for a file `farm` of n nodes.
pub record IsMarkDrawn (n : ℕ) (beginning : Beginning) (file : FarmFile) (old new : List Call) : Type 0 where
  pub is_file : IsFarmFile file
  pub of : file.nodes ≡ n
  pub begun : file.beginning ≡ beginning
  pub mark : new ≡ drawn file.mark ∷ old

-- The tapes of n nodes were opened, and then this file `farm` was written.
pub record IsFarmWritten (n : ℕ) (file : FarmFile) (old new : List Call) : Type 0 where
  pub before : List Call
  pub opened : HaveOpened n old before
  pub written : new ≡ replaced Farm (farm_text file) ∷ before

-- It has that mark.
pub record IsFiled (n : ℕ) (beginning : Beginning) (old new : List Call) : Type 0 where
  pub file : FarmFile
  pub marked : List Call
  pub drawn : IsMarkDrawn n beginning file old marked
  pub written : IsFarmWritten n file marked new

-- in a folder of the farm's own its tapes were opened; one that is new, or taken over, got its file
-- too
abbrev pub IsFarmBegun : ℕ → Start → List Call → List Call → Type 0
IsFarmBegun n (starts.Own file) old new = HaveOpened n old new
IsFarmBegun n starts.New old new = IsFiled n beginnings.Empty old new
IsFarmBegun n starts.TakenOver old new = IsFiled n beginnings.Found old new

-- By what was found the farm of n nodes may start; their tapes were read, and agree; and only then
-- was one opened.
pub record IsFarmAdmitted (n : ℕ) (survey : Survey) (start : Start) (old new : List Call) : Type 0 where
  pub checked : List Call
  pub tapes : AreTapesChecked n survey.tapes old checked
  pub begun : IsFarmBegun n start checked new

-- A farm of n nodes started on a folder that is locked.
pub record IsFarmStarted (n : ℕ) (held new : List Call) : Type 0 where
  pub survey : Survey
  pub surveyed : List Call
  pub found : IsSurveyed survey held surveyed
  pub start : Start
  pub may : IsStart n survey.found survey.tapes start
  pub admitted : IsFarmAdmitted n survey start surveyed new

-- ---- what is left where it doesn't start

-- a file `farm` of such a farm was tried to be written
abbrev pub IsFarmTried : List Call → List Call → Type 0
IsFarmTried old new = (file : FarmFile) × IsFarmFile file × (new ≡ unreplaced Farm (farm_text file) ∷ old)

-- the tapes of so many nodes were opened, and then nothing was changed, or the next one couldn't be
-- opened, or the file be written
abbrev pub IsStoppedAt : ℕ → ℕ → List Call → List Call → Type 0
IsStoppedAt n count before after = (after ≡ tape_opens count before) ⊎ ((count < n) × (after ≡ failed_at (NodeTape count) ∷ tape_opens count before)) ⊎ IsFarmTried (tape_opens n before) after

-- The farm didn't start: the first of its tapes were opened, or none was; and none was for an early
-- cause. If a call failed, it was the last one.
pub record IsFarmRejected (n : ℕ) (cause : Cause) (old new : List Call) : Type 0 where
  pub after : IsAfter old new
  pub count : ℕ
  pub most : count ≤ n
  pub stopped : IsStoppedAt n count (changes old) (changes new)
  pub early : is_early cause ≡ true → changes new ≡ changes old
  pub why : IsCallCause n cause old new

-- no connection was served: the farm started, but its port wasn't printed; or it didn't start
abbrev pub HasNotServed : ℕ → List Call → List Call → Type 0
HasNotServed n old new = IsFarmStarted n (locked ∷ old) new ⊎ ((cause : Cause) × IsFarmRejected n cause old new)

-- ---- for the crate's own contracts

-- The tape of a node was opened, and nothing else was changed.
pub record IsNodeTapeOpened (number : ℕ) (old new : List Call) : Type 0 where
  pub after : IsAfter old new
  pub changed : changes new ≡ opened (NodeTape number) ∷ changes old

-- The node isn't opened: nothing was changed, or to open its tape failed, or the tape was opened,
-- and that was all.
pub record IsTapeStopped (number : ℕ) (cause : Cause) (old new : List Call) : Type 0 where
  pub after : IsAfter old new
  pub changed : (changes new ≡ changes old) ⊎ (changes new ≡ failed_at (NodeTape number) ∷ changes old) ⊎ (changes new ≡ opened (NodeTape number) ∷ changes old)
  pub late : is_early cause ≡ false
  pub why : IsWhyStopped number cause old new

-- The file `farm` isn't written: its text wasn't made, or to write it failed.
abbrev pub IsFarmUnwritten : Cause → List Call → List Call → Type 0
IsFarmUnwritten (causes.Folder why) old new = IsWhyUnwritten Farm why × IsFarmTried old new
IsFarmUnwritten causes.Memory old new = new ≡ old
IsFarmUnwritten cause old new = ⊥
