-- Where the bytes of a tape are damaged.
use Rattle.std.specs.Prelude.{◌⊎◌, ℕ, List, drop}
use Rattle.wf_def.specs.Definition.{Definition}
use Rattle.wf_journal.specs.Journal.{IsBadAt}
use Rattle.wf_journal.specs.Records.{AreRecords}
use Rattle.wf_journal.specs.declared.open_error.OpenFault.{OpenFault}
use Rattle.wf_journal.specs.declared.open_error.OpenFault.TheVariants.{BadRecord}
use Rattle.wf_model.specs.DurableState.{Record}
use Rattle.wf_node.specs.OpenedNode.{HasNoFold}
use Rattle.wf_recovery.specs.Unsynced.{IsUnsynced}

-- At this byte offset, after whole records, the bytes are bad, and what is there was synced.
pub record IsSyncedAndBadAt (content : List ℕ) (offset : ℕ) : Type 0 where
  pub bad : IsBadAt content offset
  pub synced : ¬ IsUnsynced (drop offset content)

-- the bytes of a tape are damaged at this offset: what follows its records there is bad, and was
-- synced; or the record there doesn't fit
abbrev pub IsDamagedAt : List ℕ → ℕ → Type 0
IsDamagedAt content offset = IsSyncedAndBadAt content offset ⊎ HasNoFold content offset

-- a bad record is returned only if the bytes are damaged at that offset
abbrev pub IsWhyDamaged : OpenFault → List ℕ → Type 0
IsWhyDamaged (BadRecord offset) content = IsDamagedAt content offset
IsWhyDamaged fault content = Unit {0}

-- the bytes are whole records
abbrev pub AreWhole : List ℕ → Type 0
AreWhole content = (records : List (Record Definition)) × AreRecords content records

-- whole records are bad nowhere
abbrev pub AreBadNowhere : Type 0
AreBadNowhere = (content : List ℕ) (offset : ℕ) → AreWhole content → ¬ IsBadAt content offset
