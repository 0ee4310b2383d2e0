-- Theorems about the records of bytes: whole records read as themselves.
use Rattle.std.proofs.Common.{ℕ, List, [], length, refl, ap, subst, length-append, arith, inl}
use Rattle.wf_def.specs.Definition.{Definition}
use Rattle.wf_model.specs.DurableState.{Record}
use Rattle.wf_journal.specs.Record.{texts}
use Rattle.wf_journal.specs.Encoding.{spellings}
use Rattle.wf_journal.specs.EncodingTheorems.{length-text_spelling}
use Rattle.wf_journal.specs.Records.{BeginsWithNone, ReadsAs, AreRecords, AreWritten, IsTapeOf}

-- the empty bytes begin with no record
pub none_begins_nothing : BeginsWithNone []
none_begins_nothing r spelled after encodes e =
    absurd (omega (arith, ap length encodes.spelled, length-text_spelling encodes.version (texts r), ap length e, length-append spelled after))

-- whole records read as themselves
pub whole_reads : (bytes : List ℕ) (records : List (Record Definition)) → AreRecords bytes records → ReadsAs bytes records
whole_reads bytes records are = ([], record { splits = are; longest = none_begins_nothing })

-- nothing follows them
pub written_tape : (bytes : List ℕ) (records : List (Record Definition)) → AreWritten bytes records → IsTapeOf (spellings records) records []
written_tape bytes records are =
    subst (λ (t : List ℕ). IsTapeOf t records []) are.spelled (record { reads = record { splits = are.are_records; longest = none_begins_nothing }; clean_or_torn = inl refl })
