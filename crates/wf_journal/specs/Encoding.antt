-- The bytes of a record.
use Rattle.std.specs.Prelude.{◌≡◌, ℕ, ◌≤◌, List, [], ◌∷◌, ◌++◌, length, IfSome, is_some, option_and_then}
use Rattle.wf_ballot.specs.Field.{frame}
use Rattle.wf_frame.specs.Row.{Row, row_bytes, layout_of}
use Rattle.wf_frame.specs.Frame.{Format}
use Rattle.wf_frame.specs.Frame as frames
use Rattle.wf_model.specs.DurableState.{Record}
use Rattle.wf_def.specs.Definition.{Definition}
use Rattle.wf_canon.specs.Canon.{canon}
use Rattle.wf_journal.specs.declared.version.Version.{Version}
use Rattle.wf_journal.specs.Version.{version_byte, version_of_byte, version_written, most_text}
use Rattle.wf_journal.specs.KindTable.{kinds, most_body_bytes}
use Rattle.wf_journal.specs.Record.{texts, definition_of, IsRecord}

-- the number of bytes before the body
abbrev pub header_length : ℕ
header_length = frames.header_length

-- the format of records: each version has each kind, with the same layout but for the most bytes of
-- a text
abbrev pub format : Format
format = record {
  is_read = λ version. is_some (version_of_byte version);
  layout = λ version byte. option_and_then (λ v. layout_of (kinds (most_text v)) byte) (version_of_byte version);
  longest = most_body_bytes;
}

-- the encoding in a version of a record's row
unfoldable pub text_spelling : Version → Row (List ℕ) → List ℕ
text_spelling version r = frame (version_byte version) r.byte (row_bytes r)

-- the one encoding in which a record is written
abbrev pub spelling : Record Definition → List ℕ
spelling r = text_spelling version_written (texts r)

-- the encodings in which these records are written, one after the other
unfoldable pub spellings : List (Record Definition) → List ℕ
spellings [] = []
spellings (r ∷ records) = spelling r ++ spellings records

-- the record has no text of more bytes
abbrev pub HasTextWithin : ℕ → Record Definition → Type 0
HasTextWithin most r = IfSome (definition_of r) (λ d. length (canon d) ≤ most)

-- the bytes encode the record, in some version, which allows its text
pub record Encodes (r : Record Definition) (bytes : List ℕ) : Type 0 where
  pub is_record : IsRecord r
  pub version : Version
  pub short : HasTextWithin (most_text version) r
  pub spelled : bytes ≡ text_spelling version (texts r)

-- the bytes encode the record as it is written
pub record Spells (r : Record Definition) (bytes : List ℕ) : Type 0 where
  pub is_record : IsRecord r
  pub spelled : bytes ≡ spelling r
