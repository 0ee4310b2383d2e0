-- The listing of a tape's bytes: a line for each of their records, with the offset of its first
-- byte, and a line for what follows them.
use Rattle.std.specs.Prelude.{◌≡◌, ◌+◌, ◌++◌, ℕ, nat_lt, Bool, true, false, List, [], ◌∷◌, length, codes, decimal, String, if◌then◌else◌}
use Rattle.std.specs.String.{string_bytes}
use Rattle.wf_ballot.specs.Ballot.{Ballot, ballot_text}
use Rattle.wf_spelling.specs.Canon.{canon}
use Rattle.wf_def.specs.Definition.{Definition}
use Rattle.wf_model.specs.DurableState.{Record, Tried, Promised, Accepted, Published}
use Rattle.wf_journal.specs.Records.{Reads, IsTorn, IsBad, IsCleanOrTorn, length_of}
use Rattle.wf_journal.specs.Encoding.{spelling}
use Rattle.wf_listing.specs.declared.line.Rest.{Rest}
use Rattle.wf_listing.specs.declared.line.Rest.TheVariants as rests

-- the text is appended
abbrev pub Prints : {A : Type 0} → String A → String A → List ℕ → Type 0
Prints old new text = string_bytes new ≡ string_bytes old ++ text

-- the line of each kind of record: its offset, its kind and its fields, of a definition the number
-- of bytes of its canonical text
abbrev pub tried_line : ℕ → ℕ → List ℕ
tried_line offset round = decimal offset ++ codes " tried " ++ decimal round ++ codes "\n"

abbrev pub promised_line : ℕ → ℕ → Ballot → List ℕ
promised_line offset s b = decimal offset ++ codes " promised " ++ decimal s ++ codes " ballot " ++ ballot_text b ++ codes "\n"

abbrev pub accepted_line : ℕ → ℕ → Ballot → ℕ → List ℕ
accepted_line offset s b count =
    decimal offset ++ codes " accepted " ++ decimal s ++ codes " ballot " ++ ballot_text b ++ codes " text " ++ decimal count ++ codes "\n"

abbrev pub published_line : ℕ → ℕ → ℕ → List ℕ
published_line offset s count = decimal offset ++ codes " published " ++ decimal s ++ codes " text " ++ decimal count ++ codes "\n"

abbrev pub record_line : ℕ → Record Definition → List ℕ
record_line offset (Tried round) = tried_line offset round
record_line offset (Promised s b) = promised_line offset s b
record_line offset (Accepted s b d) = accepted_line offset s b (length (canon d))
record_line offset (Published s d) = published_line offset s (length (canon d))

-- the lines of records, one after the other, the first of them at this offset
unfoldable pub record_lines : ℕ → List (Record Definition) → List ℕ
record_lines offset [] = []
record_lines offset (r ∷ records) = record_line offset r ++ record_lines (offset + length (spelling r)) records

-- the line of what follows the records: where it begins, what it is, and its number of bytes
abbrev pub left_line : ℕ → List ℕ → ℕ → List ℕ
left_line offset words count = decimal offset ++ codes " " ++ words ++ codes ", " ++ decimal count ++ codes " bytes\n"

abbrev pub rest_line : ℕ → ℕ → Rest → List ℕ
rest_line offset count rests.Nothing = decimal offset ++ codes " end\n"
rest_line offset count rests.Torn = left_line offset (codes "torn record") count
rest_line offset count rests.Bad = left_line offset (codes "P2 bad record") count

-- what the bytes after the records are
abbrev pub IsRest : Rest → List ℕ → Type 0
IsRest rests.Nothing left = left ≡ []
IsRest rests.Torn left = IsTorn left
IsRest rests.Bad left = IsBad left

-- The text is the listing of the bytes.
pub record IsListing (bytes text : List ℕ) : Type 0 where
  -- all the whole records that the bytes begin with, and the bytes after them
  pub records : List (Record Definition)
  pub left : List ℕ
  pub reads : Reads bytes records left
  pub rest : Rest
  pub is_rest : IsRest rest left
  pub lines : text ≡ record_lines 0 records ++ rest_line (length_of records) (length left) rest

-- any bytes have at most one listing
abbrev pub HasOneListing : List ℕ → Type 0
HasOneListing bytes = (text other : List ℕ) → IsListing bytes text → IsListing bytes other → text ≡ other

-- ---- for the crate's own contracts

-- all the whole records that the bytes begin with, and whether what follows them is bad
pub record AreFound (bytes : List ℕ) (records : List (Record Definition)) (is_bad : Bool) : Type 0 where
  pub left : List ℕ
  pub reads : Reads bytes records left
  pub bad : is_bad ≡ true → IsBad left
  pub sound : is_bad ≡ false → IsCleanOrTorn left

-- what follows the records, by the offset at which they end and the number of all bytes
abbrev pub rest_of : ℕ → ℕ → Bool → Rest
rest_of end count true = rests.Bad
rest_of end count false = if nat_lt end count then rests.Torn else rests.Nothing
