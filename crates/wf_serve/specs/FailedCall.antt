-- Which call of the folder failed, where that is why a farm doesn't start.
use Rattle.std.specs.Prelude.{◌≡◌, ◌<◌, ◌⊎◌, ℕ, ⊤, Bool, true, false, List, ◌∷◌, Some, None, length}
use Rattle.wf_folder.specs.FarmFile.{IsFarmFile, farm_text}
use Rattle.wf_folder.specs.declared.farm_file.FarmFile.{FarmFile}
use Rattle.wf_listing.specs.TapeBytes.{most_tape_bytes}
use Rattle.wf_serve.specs.declared.event.Cause.{Cause}
use Rattle.wf_serve.specs.declared.event.Cause.TheVariants as causes
use Rattle.wf_store.specs.Call.{Call, IsAfter, failed, failed_at, read, unreplaced}
use Rattle.wf_store.specs.Fault.{IsWhyUndrawn, IsWhyUnlocked, IsWhyUnopened, IsWhyUnread, IsWhyUnwritten}
use Rattle.wf_store.specs.declared.fault.FolderFault.{FolderFault}
use Rattle.wf_store.specs.declared.fault.FolderFault.TheVariants as faults
use Rattle.wf_store.specs.declared.file_name.FileName.TheVariants.{Farm, NodeTape}

-- ---- which causes come before any tape is opened

-- a failed call comes before any tape is opened, unless it opens one or writes the file `farm`;
-- one that lacked memory may be any
abbrev pub is_early_call : FolderFault → Bool
is_early_call (faults.Unopened file) = false
is_early_call (faults.Unwritten file kind) = false
is_early_call faults.Memory = false
is_early_call why = true

-- the cause is one that comes before any tape is opened
abbrev pub is_early : Cause → Bool
is_early (causes.Folder why) = is_early_call why
is_early (causes.TapeFailed tape) = false
is_early causes.Memory = false
is_early cause = true

-- ---- which call it was

-- This call was the last one.
pub record IsLastCall (call : Call) (old new : List Call) : Type 0 where
  pub before : List Call
  pub after : IsAfter old before
  pub is : new ≡ call ∷ before

-- what is in the folder isn't seen: its file `farm` isn't read, or one of the 64 tapes that it may
-- have isn't looked for or read
abbrev pub IsWhyUnseen : FolderFault → Type 0
IsWhyUnseen why = IsWhyUnread Farm why ⊎ ((tape : ℕ) × (tape < 64) × IsWhyUnread (NodeTape tape) why)

-- and that was the last call
abbrev pub IsWhyUnsurveyed : FolderFault → List Call → List Call → Type 0
IsWhyUnsurveyed why old new = IsLastCall failed old new × IsWhyUnseen why

-- A farm of n nodes doesn't start. If a call failed, it was the last one: to lock the folder, to
-- see what is in it or to draw bits; to open a tape of the farm's; or to write the file `farm`. If
-- a tape had vanished when it was read, or was too long, that call was the last one. Any other
-- cause is no call's.
abbrev pub IsCallCause : ℕ → Cause → List Call → List Call → Type 0
IsCallCause n (causes.Folder why) old new =
    (IsLastCall failed old new × (IsWhyUnlocked why ⊎ IsWhyUnseen why ⊎ IsWhyUndrawn why))
    ⊎ ((tape : ℕ) × (tape < n) × IsLastCall (failed_at (NodeTape tape)) old new × IsWhyUnopened (NodeTape tape) why)
    ⊎ ((file : FarmFile) × IsFarmFile file × IsLastCall (unreplaced Farm (farm_text file)) old new × IsWhyUnwritten Farm why)
IsCallCause n (causes.TapeVanished tape) old new = (tape < n) × IsLastCall (read (NodeTape tape) None) old new
IsCallCause n (causes.TapeTooLong tape) old new = (tape < n) × ((bytes : List ℕ) × (most_tape_bytes < length bytes) × IsLastCall (read (NodeTape tape) (Some bytes)) old new)
IsCallCause n (causes.TapeFailed tape) old new = tape < n
IsCallCause n (causes.Port port) old new = ⊥
IsCallCause n cause old new = ⊤

-- ---- for the crate's own contracts

-- a tape that was seen isn't read
abbrev pub IsWhyTapeUnread : ℕ → Cause → List Call → List Call → Type 0
IsWhyTapeUnread number (causes.Folder why) old new = IsWhyUnread (NodeTape number) why × (new ≡ failed ∷ old)
IsWhyTapeUnread number (causes.TapeVanished tape) old new = (tape ≡ number) × (new ≡ read (NodeTape number) None ∷ old)
IsWhyTapeUnread number (causes.TapeTooLong tape) old new = (tape ≡ number) × ((bytes : List ℕ) × (most_tape_bytes < length bytes) × (new ≡ read (NodeTape number) (Some bytes) ∷ old))
IsWhyTapeUnread number cause old new = ⊥

-- the cause of a tape that isn't opened: an allocation that fails there counts as the tape's
abbrev pub unopened_cause : ℕ → FolderFault → Cause
unopened_cause number faults.Memory = causes.TapeFailed number
unopened_cause number why = causes.Folder why

-- no node opens on a tape: that wasn't opened, or failed then, or an allocation did
abbrev pub IsWhyStopped : ℕ → Cause → List Call → List Call → Type 0
IsWhyStopped number (causes.Folder why) old new = IsLastCall (failed_at (NodeTape number)) old new × IsWhyUnopened (NodeTape number) why
IsWhyStopped number (causes.TapeFailed tape) old new = tape ≡ number
IsWhyStopped number causes.Memory old new = ⊤
IsWhyStopped number cause old new = ⊥
