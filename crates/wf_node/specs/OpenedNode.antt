-- The node that a tape opens as, and why one doesn't open.
use Rattle.std.specs.Prelude.{◌≡◌, ◌⊎◌, ℕ, ◌+◌, false, true, List, ◌∷◌, ◌++◌, length, Some, None}
use Rattle.wf_def.specs.Definition.{Definition}
use Rattle.wf_model.specs.DurableState.{DurableState, Record, fits, with_record, fold}
use Rattle.wf_journal.specs.Journal.{IsBadAt}
use Rattle.wf_journal.specs.Encoding.{spelling}
use Rattle.wf_journal.specs.Records.{ReadsAs, IsTapeOf, length_of}
use Rattle.wf_journal.specs.declared.open_error.OpenFault.{OpenFault}
use Rattle.wf_journal.specs.declared.open_error.OpenFault.TheVariants.{TapeFailed, BadRecord, Memory}

-- the content's records fold to this, and what follows them isn't bad
pub record IsFoldOf (stored : DurableState Definition) (content : List ℕ) : Type 0 where
  pub records : List (Record Definition)
  pub rest : List ℕ
  pub tape : IsTapeOf content records rest
  pub folds : fold records ≡ Some stored

-- Some bytes were read from the tape, its content if it is durable, and their records fold to this.
pub record IsRead (durable : Type 0) (content : List ℕ) (stored : DurableState Definition) : Type 0 where
  pub bytes : List ℕ
  pub folds : IsFoldOf stored bytes
  pub same : durable → bytes ≡ content

-- At this byte offset from the first record is the first record that doesn't fit: a published
-- definition that isn't the next one.
pub record IsUnfitAt (records : List (Record Definition)) (index : ℕ) : Type 0 where
  pub before : List (Record Definition)
  pub unfit : Record Definition
  pub after : List (Record Definition)
  pub parts : records ≡ before ++ unfit ∷ after
  pub stands : length_of before ≡ index
  pub stored : DurableState Definition
  pub folds : fold before ≡ Some stored
  pub no_fit : fits stored unfit ≡ false

-- the content's records have no fold, since the record at this byte offset doesn't fit
pub record HasNoFold (content : List ℕ) (index : ℕ) : Type 0 where
  pub records : List (Record Definition)
  pub reads : ReadsAs content records
  pub none : fold records ≡ None
  pub unfit : IsUnfitAt records index

-- A bad record is returned only if what follows the records is bad, or there is no fold.
abbrev pub IsWhyBad : OpenFault → List ℕ → Type 0
IsWhyBad (BadRecord index) content = IsBadAt content index ⊎ HasNoFold content index
IsWhyBad TapeFailed content = Unit {0}
IsWhyBad Memory content = Unit {0}

-- ---- used only in this crate's contracts: the records are folded one after the other

-- The record at this byte offset fits and is applied, and the next one follows it.
pub record IsApplied (old : DurableState Definition) (r : Record Definition) (index : ℕ) (new : DurableState Definition) (next : ℕ) : Type 0 where
  pub fit : fits old r ≡ true
  pub applied : new ≡ with_record old r
  pub behind : next ≡ index + length (spelling r)

-- why the record at this byte offset isn't applied: it doesn't fit, or allocation failed
abbrev pub IsWhyRecordRejected : DurableState Definition → Record Definition → ℕ → OpenFault → Type 0
IsWhyRecordRejected old r here (BadRecord index) = (index ≡ here) × (fits old r ≡ false)
IsWhyRecordRejected old r here TapeFailed = ⊥
IsWhyRecordRejected old r here Memory = Unit {0}

-- why the records aren't folded
abbrev pub IsWhyUnfolded : List (Record Definition) → OpenFault → Type 0
IsWhyUnfolded records (BadRecord index) = IsUnfitAt records index
IsWhyUnfolded records TapeFailed = ⊥
IsWhyUnfolded records Memory = Unit {0}
