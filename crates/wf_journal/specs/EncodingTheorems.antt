-- Theorems about the encodings of a record: they have one length, and the one that is written is
-- one of them.
use Rattle.std.proofs.Common.{◌≡◌, ℕ, ◌+◌, ◌≤◌, List, [], ◌∷◌, length, ap, arith}
use Rattle.std.specs.Prelude.{IfSome}
use Rattle.wf_ballot.specs.Field.{frame}
use Rattle.wf_frame.specs.Field.{FieldValue}
use Rattle.wf_frame.specs.Row.{Row, RowEnd, NoEnd, TextEnd, VotesEnd, AreInRange, row_bytes}
use Rattle.wf_model.specs.DurableState.{Record}
use Rattle.wf_def.specs.Definition.{Definition}
use Rattle.wf_canon.specs.Canon.{canon, most_canon_bytes}
use Rattle.wf_journal.specs.declared.version.Version.{Version}
use Rattle.wf_journal.specs.Version.{version_written}
use Rattle.wf_journal.specs.Record.{row, texts, end_definition, HasText, IsRecord}
use Rattle.wf_journal.specs.Encoding.{header_length, text_spelling, spelling, HasTextWithin, Encodes, Spells}

-- the length of the header and of the body
pub length-text_spelling : (version : Version) (r : Row (List ℕ)) → length (text_spelling version r) ≡ header_length + length (row_bytes r)
unfolding text_spelling frame
length-text_spelling version r = omega arith

-- an encoding is as long as the one that is written
pub length_of_encoding : (r : Record Definition) (bytes : List ℕ) → Encodes r bytes → length bytes ≡ length (spelling r)
length_of_encoding r bytes encodes =
    omega (arith, ap length encodes.spelled, length-text_spelling encodes.version (texts r), length-text_spelling version_written (texts r))

short_end : (values : List FieldValue) (end : RowEnd Definition) → AreInRange HasText values end → IfSome (end_definition end) (λ d. length (canon d) ≤ most_canon_bytes)
short_end (v ∷ values) end is = short_end values end is.1
short_end [] NoEnd is = tt
short_end [] (TextEnd d) is = is.short
short_end [] (VotesEnd s b votes) is = tt

-- a record's text is within the limit of canonical texts
pub text_is_short : (r : Record Definition) → IsRecord r → HasTextWithin most_canon_bytes r
text_is_short r is = short_end (row r).fields (row r).ending is

-- what is written is an encoding
pub written_encodes : (r : Record Definition) (bytes : List ℕ) → Spells r bytes → Encodes r bytes
written_encodes r bytes spells =
    record { is_record = spells.is_record; version = version_written; short = text_is_short r spells.is_record; spelled = spells.spelled }
