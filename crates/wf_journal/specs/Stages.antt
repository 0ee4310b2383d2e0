-- How the decoder reads: the frame, its fields, its text. Used only in this crate's contracts.
use Rattle.std.specs.Prelude.{◌≡◌, ℕ, ◌+◌, List, length, Option, Some, None, Result, Ok, Err, IfOk, MatchResult, IsSomeAnd}
use Rattle.wf_frame.specs.declared.fault.FrameFault.{FrameFault}
use Rattle.wf_frame.specs.declared.fault.FrameFault.TheVariants.{Short}
use Rattle.wf_frame.specs.Row.{Row, read_row}
use Rattle.wf_frame.specs.Frame.{FrameFound}
use Rattle.wf_model.specs.DurableState.{Record}
use Rattle.wf_def.specs.Definition.{Definition}
use Rattle.wf_canon.specs.Canon.{canon}
use Rattle.wf_journal.specs.declared.fault.RecordFault.{RecordFault}
use Rattle.wf_journal.specs.declared.fault.RecordFault.TheVariants.{Torn, Bad, NotCanonical, Memory}
use Rattle.wf_journal.specs.KindTable.{kinds}
use Rattle.wf_journal.specs.Record.{texts, end_definition, HasText, IsRecord}
use Rattle.wf_journal.specs.Encoding.{header_length}

-- the decoder's error for that of the frame
abbrev pub record_fault : FrameFault → RecordFault
record_fault Short = Torn
record_fault fault = Bad

-- it isn't any record's text
abbrev pub IsNoRecordText : List ℕ → Type 0
IsNoRecordText text = (d : Definition) → HasText d → canon d ≡ text → ⊥

-- the definition of a canonical text; or the text isn't canonical; or allocation failed
abbrev pub ReadsText : Result Definition RecordFault → List ℕ → Type 0
ReadsText (Ok d) text = (canon d ≡ text) × HasText d
ReadsText (Err NotCanonical) text = IsNoRecordText text
ReadsText (Err Memory) text = Unit {0}
ReadsText (Err fault) text = ⊥

-- the result of a function that reads a body, mapped by view, compared with the row of the body
abbrev pub ReadsBody : {X : Type 0} → (X → Record Definition) → Result X RecordFault → Option (Row (List ℕ)) → Type 0
ReadsBody view (Ok x) read = (read ≡ Some (texts (view x))) × IsRecord (view x)
ReadsBody view (Err Bad) read = read ≡ None
ReadsBody view (Err NotCanonical) read = IsSomeAnd read (λ r. IsSomeAnd (end_definition r.ending) IsNoRecordText)
ReadsBody view (Err Memory) read = Unit {0}
ReadsBody view (Err fault) read = ⊥

-- The frame's error, or else the record of its body, and the length of the whole. What is read
-- doesn't depend on how long a text may be.
abbrev pub IsRecordValidated : {X : Type 0} → (X → Record Definition) → Result (X × ℕ) RecordFault → Result FrameFound FrameFault → Type 0
IsRecordValidated view result split = MatchResult split
    (λ frame. ((most : ℕ) → ReadsBody (λ x. view x.0) result (read_row (kinds most) frame.1 frame.2)) × IfOk result (λ x. x.1 ≡ header_length + length frame.2))
    (λ fault. result ≡ Err (record_fault fault))

-- errors of the bytes themselves
abbrev pub IsFaultOfBytes : RecordFault → Type 0
IsFaultOfBytes Bad = Unit {0}
IsFaultOfBytes NotCanonical = Unit {0}
IsFaultOfBytes fault = ⊥
