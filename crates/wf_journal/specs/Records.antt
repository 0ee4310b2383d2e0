-- The records of bytes: the longest list of whole records that the bytes begin with. What follows
-- them is nothing, torn or bad.
use Rattle.std.specs.Prelude.{◌≡◌, ℕ, ◌+◌, ◌⊎◌, List, [], ◌∷◌, ◌++◌, length}
use Rattle.wf_model.specs.DurableState.{Record}
use Rattle.wf_def.specs.Definition.{Definition}
use Rattle.wf_frame.specs.Frame.{IsUnfinishedFrame}
use Rattle.wf_journal.specs.Encoding.{spelling, spellings, format, Encodes}

-- the bytes are the encodings of the records, followed by the rest
abbrev pub Splits : List ℕ → List (Record Definition) → List ℕ → Type 0
Splits bytes [] rest = bytes ≡ rest
Splits bytes (r ∷ records) rest = (spelled : List ℕ) × (after : List ℕ) × Encodes r spelled × (bytes ≡ spelled ++ after) × Splits after records rest

-- no prefix of the bytes is a record's encoding
abbrev pub BeginsWithNone : List ℕ → Type 0
BeginsWithNone bytes = (r : Record Definition) (spelled after : List ℕ) → Encodes r spelled → bytes ≡ spelled ++ after → ⊥

-- these are all the whole records that the bytes begin with
pub record Reads (bytes : List ℕ) (records : List (Record Definition)) (rest : List ℕ) : Type 0 where
  pub splits : Splits bytes records rest
  pub longest : BeginsWithNone rest

-- the bytes read as these records, whatever follows them
abbrev pub ReadsAs : List ℕ → List (Record Definition) → Type 0
ReadsAs bytes records = (rest : List ℕ) × Reads bytes records rest

-- empty bytes are read as the empty list
abbrev pub IsReadAsNone : Type 0
IsReadAsNone = (records : List (Record Definition)) → ReadsAs [] records → records ≡ []

-- bytes are read as at most one list of records
abbrev pub AreReadOneWay : Type 0
AreReadOneWay = (bytes : List ℕ) (records others : List (Record Definition)) → ReadsAs bytes records → ReadsAs bytes others → records ≡ others

-- the bytes are exactly the encodings of the records
abbrev pub AreRecords : List ℕ → List (Record Definition) → Type 0
AreRecords bytes records = Splits bytes records []

-- the bytes are exactly these records, as they are written
pub record AreWritten (bytes : List ℕ) (records : List (Record Definition)) : Type 0 where
  pub are_records : AreRecords bytes records
  pub spelled : bytes ≡ spellings records

-- the number of bytes of the records
unfoldable pub length_of : List (Record Definition) → ℕ
length_of [] = 0
length_of (r ∷ records) = length (spelling r) + length_of records

-- Part of a record, at least one byte: its version, its kind and its length have no error as far as
-- they are there, and its bytes end too early. The length is checked once its four bytes are there.
abbrev pub IsTorn : List ℕ → Type 0
IsTorn [] = ⊥
IsTorn (byte ∷ bytes) = IsUnfinishedFrame format (byte ∷ bytes)

-- Bytes that are neither a record nor a torn one.
pub record IsBad (bytes : List ℕ) : Type 0 where
  pub longest : BeginsWithNone bytes
  pub not_clean : bytes ≡ [] → ⊥
  pub not_torn : IsTorn bytes → ⊥

-- What a crash may leave after the whole records: nothing, or a torn record.
abbrev pub IsCleanOrTorn : List ℕ → Type 0
IsCleanOrTorn bytes = (bytes ≡ []) ⊎ IsTorn bytes

-- The bytes are these records, followed by nothing or a torn one.
pub record IsTapeOf (bytes : List ℕ) (records : List (Record Definition)) (rest : List ℕ) : Type 0 where
  pub reads : Reads bytes records rest
  pub clean_or_torn : IsCleanOrTorn rest
