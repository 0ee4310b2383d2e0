-- What a run of a command reads and writes, and its errors.
use Rattle.std.specs.Prelude.{◌≡◌, ◌+◌, ◌<◌, ℕ, List, [], ◌∷◌, length, Option, Result, Ok, Err, false, true, take, IfSome, Vec, None, Some, ◌⊎◌}
use Rattle.std.specs.Io.KnownBytes.{Appends, Keeps}
use Rattle.wf_def.specs.Definition.{Definition}
use Rattle.wf_def.specs.Limits.{IsWithinLimits}
use Rattle.wf_mapfile.specs.Meaning.{Means, MeansNothing, longest_mapfile}
use Rattle.wf_block.specs.ReadContract.{is_memory}
use Rattle.wf_block.specs.declared.fault.MapFault.{MapFault}
use Rattle.wf_spelling.specs.Canon.{canon, IsCauseOf}
use Rattle.wf_spelling.specs.declared.fault.CanonFault.{CanonFault}
use Rattle.wf_spelling.specs.declared.fault.CanonFault.TheVariants as canons
use Rattle.wf_check.specs.Finding.{IsPublishable, IsReport, IsReportOf}
use Rattle.wf_check.specs.Json.{IsJsonReport}
use Rattle.wf_check.specs.declared.fault.CheckFault.{CheckFault}
use Rattle.wf_check.specs.declared.fault.CheckFault.TheVariants as found
use Rattle.wf_check.specs.declared.finding.Finding.{Finding}
use Rattle.wf_wms.specs.Answer.{AnswerValue, IsAnswerOf, description}
use Rattle.wf_script.specs.Fault as script
use Rattle.wf_script.specs.Lines.{most_script_bytes}
use Rattle.wf_play.specs.PlayEnd.{WritesBeginning}
use Rattle.wf_play.specs.ScriptRun.{IsFaultOf, IsScriptText, PlaysInput}
use Rattle.wf_play.specs.declared.fault.PlayFault.TheVariants as plays
use Rattle.std.specs.declared.alloc.Global.{Global}
use Rattle.wf_listing.specs.Listing.{IsListing}
use Rattle.wf_listing.specs.Map.{IsMapTextAt}
use Rattle.wf_listing.specs.TapeBytes.{most_tape_bytes}
use Rattle.wf_listing.specs.declared.fault.TapeReadFault.{TapeReadFault}
use Rattle.wf_listing.specs.declared.fault.TapeReadFault.TheVariants as tapes
use Rattle.wf_line.specs.declared.command_line.Line.{Line}
use Rattle.wf_line.specs.declared.command_line.Line.TheVariants as lines
use Rattle.wf_line.specs.declared.command_line.Format.{Format}
use Rattle.wf_line.specs.declared.command_line.Format.TheVariants as formats
use Rattle.wf_commands.specs.declared.fault.RunFault.{RunFault}
use Rattle.wf_commands.specs.declared.fault.RunFault.TheVariants as faults

-- the most bytes read of an input: the longest mapfile's length plus one
abbrev pub most_input_bytes : ℕ
most_input_bytes = longest_mapfile + 1

-- the most bytes that `check` reads: as many as it counts, plus one
abbrev pub most_checked_bytes : ℕ
most_checked_bytes = 16_777_217

-- the most bytes of standard input that each command reads: of a script, the longest script's
-- length plus one; none for `tape` and `serve`
abbrev pub most_read : Line → ℕ
most_read (lines.Caps seq query) = most_input_bytes
most_read (lines.Draw query) = most_input_bytes
most_read lines.Canon = most_input_bytes
most_read (lines.Check format) = most_checked_bytes
most_read lines.Run = most_script_bytes + 1
most_read lines.Wire = most_script_bytes + 1
most_read (lines.Tape file map) = 0
most_read (lines.Serve service) = 0

-- the prefix of an input that is checked
abbrev pub examined : List ℕ → List ℕ
examined input = take most_input_bytes input

-- ---- the outcome of a run

-- A text with the property, which is the whole input, if that is known.
pub record OfInput (P : List ℕ → Type 0) (input : Option (List ℕ)) : Type 0 where
  pub text : List ℕ
  pub is : IfSome input (λ known. text ≡ known)
  pub has : P text

-- a definition within the limits with the property, which the input means
abbrev pub MeansOne : (Definition → Type 0) → Option (List ℕ) → Type 0
MeansOne P input = (d : Definition) × OfInput (λ text. Means text d) input × IsWithinLimits d × P d

-- why an input can't be read: an allocation or a read failed
abbrev pub IsInputFault : RunFault → Type 0
IsInputFault (faults.Map fault) = is_memory fault ≡ true
IsInputFault faults.Read = Unit {0}
IsInputFault (faults.Canon fault) = ⊥
IsInputFault (faults.Script fault) = ⊥
IsInputFault (faults.Tape fault) = ⊥
IsInputFault faults.Write = ⊥
IsInputFault faults.Serve = ⊥
IsInputFault faults.Wire = ⊥

-- why bytes give no definition: they mean none, unless an allocation failed
abbrev pub IsMapFault : List ℕ → RunFault → Type 0
IsMapFault bytes (faults.Map fault) = is_memory fault ≡ false → MeansNothing bytes
IsMapFault bytes faults.Read = ⊥
IsMapFault bytes (faults.Canon fault) = ⊥
IsMapFault bytes (faults.Script fault) = ⊥
IsMapFault bytes (faults.Tape fault) = ⊥
IsMapFault bytes faults.Write = ⊥
IsMapFault bytes faults.Serve = ⊥
IsMapFault bytes faults.Wire = ⊥

-- why an input gives no definition: a map error is returned only if the input means none, unless an
-- allocation failed
abbrev pub IsReadingFault : Option (List ℕ) → RunFault → Type 0
IsReadingFault input (faults.Map fault) = is_memory fault ≡ false → OfInput MeansNothing input
IsReadingFault input faults.Read = Unit {0}
IsReadingFault input (faults.Canon fault) = ⊥
IsReadingFault input (faults.Script fault) = ⊥
IsReadingFault input (faults.Tape fault) = ⊥
IsReadingFault input faults.Write = ⊥
IsReadingFault input faults.Serve = ⊥
IsReadingFault input faults.Wire = ⊥

-- a prefix of the bytes was appended
abbrev pub AppendsPart : Option (List ℕ) → Option (List ℕ) → List ℕ → Type 0
AppendsPart old new bytes = (count : ℕ) × Appends old new (take count bytes)

-- What is written of an output: all of it; a prefix if the writer failed; nothing if the output
-- can't be made.
abbrev pub IsOutputWriting : List ℕ → (CanonFault → Type 0) → Option (List ℕ) → Option (List ℕ) → Result (Unit {0}) RunFault → Type 0
IsOutputWriting bytes rejects old new (Ok done) = Appends old new bytes
IsOutputWriting bytes rejects old new (Err faults.Write) = AppendsPart old new bytes
IsOutputWriting bytes rejects old new (Err (faults.Canon fault)) = rejects fault × Keeps old new
IsOutputWriting bytes rejects old new (Err (faults.Map fault)) = (is_memory fault ≡ true) × Keeps old new
IsOutputWriting bytes rejects old new (Err faults.Read) = ⊥
IsOutputWriting bytes rejects old new (Err (faults.Script fault)) = ⊥
IsOutputWriting bytes rejects old new (Err (faults.Tape fault)) = ⊥
IsOutputWriting bytes rejects old new (Err faults.Serve) = ⊥
IsOutputWriting bytes rejects old new (Err faults.Wire) = ⊥

-- What is written of one of these outputs: all of it; a prefix if the writer failed; nothing if an
-- allocation failed before.
abbrev pub IsWritingOf : (List ℕ → Type 0) → Option (List ℕ) → Option (List ℕ) → Result (Unit {0}) RunFault → Type 0
IsWritingOf IsOutput old new (Ok done) = (bytes : List ℕ) × IsOutput bytes × Appends old new bytes
IsWritingOf IsOutput old new (Err faults.Write) = (bytes : List ℕ) × IsOutput bytes × AppendsPart old new bytes
IsWritingOf IsOutput old new (Err (faults.Map fault)) = (is_memory fault ≡ true) × Keeps old new
IsWritingOf IsOutput old new (Err (faults.Canon fault)) = ⊥
IsWritingOf IsOutput old new (Err faults.Read) = ⊥
IsWritingOf IsOutput old new (Err (faults.Tape fault)) = ⊥
IsWritingOf IsOutput old new (Err (faults.Script fault)) = ⊥
IsWritingOf IsOutput old new (Err faults.Serve) = ⊥
IsWritingOf IsOutput old new (Err faults.Wire) = ⊥

-- What a run writes about the definition that the input means: a whole output of the definition, or
-- a prefix of one if the writer failed. With any other error nothing is written.
abbrev pub IsDefinitionOutcome : (Definition → List ℕ → Type 0) → (CanonFault → Definition → Type 0) → Option (List ℕ) → Option (List ℕ) → Option (List ℕ)
    → Result (Unit {0}) RunFault → Type 0
IsDefinitionOutcome HasOutput rejects input old new (Ok done) = MeansOne (λ d. (bytes : List ℕ) × HasOutput d bytes × Appends old new bytes) input
IsDefinitionOutcome HasOutput rejects input old new (Err faults.Write) = MeansOne (λ d. (bytes : List ℕ) × HasOutput d bytes × AppendsPart old new bytes) input
IsDefinitionOutcome HasOutput rejects input old new (Err (faults.Canon fault)) = MeansOne (rejects fault) input × Keeps old new
IsDefinitionOutcome HasOutput rejects input old new (Err (faults.Map fault)) = (is_memory fault ≡ false → OfInput MeansNothing input) × Keeps old new
IsDefinitionOutcome HasOutput rejects input old new (Err faults.Read) = Keeps old new
IsDefinitionOutcome HasOutput rejects input old new (Err (faults.Script fault)) = ⊥
IsDefinitionOutcome HasOutput rejects input old new (Err (faults.Tape fault)) = ⊥
IsDefinitionOutcome HasOutput rejects input old new (Err faults.Serve) = ⊥
IsDefinitionOutcome HasOutput rejects input old new (Err faults.Wire) = ⊥

-- ---- the outputs about a definition

-- the answer about it at a sequence to a query
abbrev pub IsDescription : ℕ → List ℕ → Definition → List ℕ → Type 0
IsDescription seq query d bytes = bytes ≡ (description seq d query).bytes

-- its canonical text
abbrev pub IsCanonical : Definition → List ℕ → Type 0
IsCanonical d bytes = bytes ≡ canon d

-- the answer to a query of a server that has published only it, at sequence 1; each query has one
abbrev pub IsPreview : List ℕ → Definition → List ℕ → Type 0
IsPreview query d bytes = (answer : AnswerValue) × IsAnswerOf 1 (d ∷ []) query answer × (bytes ≡ answer.bytes)

-- What is written for a script: nothing if it can't be read or isn't one. An error of the script,
-- unless an allocation failed, is the input's, with its line. If it is played to its end, to a
-- failed write or to a message that is lost on its way, the whole input was read; if the input is
-- known, it is a script. If it is played to its end, each of its orders was performed in turn on a
-- new farm, and what they write was written; before an error a beginning of that, in the words of
-- `WritesBeginning`. `loses` is whether a message may be lost.
abbrev pub IsPlayed : Type 0 → Option (List ℕ) → Option (List ℕ) → Option (List ℕ) → Result (Unit {0}) RunFault → Type 0
IsPlayed loses input old new (Ok done) = IfSome input IsScriptText × PlaysInput input old new
IsPlayed loses input old new (Err faults.Write) = IfSome input IsScriptText × WritesBeginning input old new plays.Write
IsPlayed loses input old new (Err faults.Wire) = loses × IfSome input IsScriptText × WritesBeginning input old new plays.Wire
IsPlayed loses input old new (Err (faults.Script fault)) =
    IsFaultOf input fault × (script.is_memory fault ≡ false → Keeps old new) × WritesBeginning input old new (plays.Script fault)
IsPlayed loses input old new (Err faults.Read) = Keeps old new
IsPlayed loses input old new (Err (faults.Map fault)) = ⊥
IsPlayed loses input old new (Err (faults.Canon fault)) = ⊥
IsPlayed loses input old new (Err (faults.Tape fault)) = ⊥
IsPlayed loses input old new (Err faults.Serve) = ⊥

-- the prefix of an input that `check` reads
abbrev pub checked : List ℕ → List ℕ
checked input = take most_checked_bytes input

-- the error of a run for that of a finding
abbrev pub fault_of : CheckFault → RunFault
fault_of (found.Map fault) = faults.Map fault
fault_of found.TooBig = faults.Canon canons.TooBig

-- the text is the report of a finding in this format
unfoldable pub IsReportIn : Format → Finding → List ℕ → Type 0
IsReportIn formats.Text finding text = IsReport finding text
IsReportIn formats.Json finding text = IsJsonReport finding text

-- P holds of the report, in a format, of a finding of the bytes with this error
abbrev pub HasReport : Format → List ℕ → CheckFault → (List ℕ → Type 0) → Type 0
HasReport format bytes fault P = (text : List ℕ) × IsReportOf (IsReportIn format) bytes fault text × P text

-- the same for the prefix of an input that is read, if the input is known
abbrev pub HasReportIn : Format → Option (List ℕ) → CheckFault → (List ℕ → Type 0) → Type 0
HasReportIn format input fault P = (text : List ℕ) × IfSome input (λ known. IsReportOf (IsReportIn format) (checked known) fault text) × P text

-- What `check` writes: nothing if the input is a map that a farm publishes; else the report, in a
-- format, of a finding whose error is that of the run, or a prefix of it if the writer failed.
-- Nothing if a read or an allocation failed.
abbrev pub IsChecked : Format → Option (List ℕ) → Option (List ℕ) → Option (List ℕ) → Result (Unit {0}) RunFault → Type 0
IsChecked format input old new (Ok done) = IfSome input IsPublishable × Keeps old new
IsChecked format input old new (Err (faults.Map fault)) =
    (is_memory fault ≡ true → Keeps old new) × (is_memory fault ≡ false → HasReportIn format input (found.Map fault) (λ text. Appends old new text))
IsChecked format input old new (Err (faults.Canon fault)) = (fault ≡ canons.TooBig) × HasReportIn format input found.TooBig (λ text. Appends old new text)
IsChecked format input old new (Err faults.Write) = (fault : CheckFault) × HasReportIn format input fault (λ text. AppendsPart old new text)
IsChecked format input old new (Err faults.Read) = Keeps old new
IsChecked format input old new (Err (faults.Script fault)) = ⊥
IsChecked format input old new (Err (faults.Tape fault)) = ⊥
IsChecked format input old new (Err faults.Serve) = ⊥
IsChecked format input old new (Err faults.Wire) = ⊥

-- the same for bytes that were read
abbrev pub IsCheckOf : Format → List ℕ → Option (List ℕ) → Option (List ℕ) → Result (Unit {0}) RunFault → Type 0
IsCheckOf format bytes old new (Ok done) = IsPublishable bytes × Keeps old new
IsCheckOf format bytes old new (Err (faults.Map fault)) =
    (is_memory fault ≡ true → Keeps old new) × (is_memory fault ≡ false → HasReport format bytes (found.Map fault) (λ text. Appends old new text))
IsCheckOf format bytes old new (Err (faults.Canon fault)) = (fault ≡ canons.TooBig) × HasReport format bytes found.TooBig (λ text. Appends old new text)
IsCheckOf format bytes old new (Err faults.Write) = (fault : CheckFault) × HasReport format bytes fault (λ text. AppendsPart old new text)
IsCheckOf format bytes old new (Err faults.Read) = ⊥
IsCheckOf format bytes old new (Err (faults.Script fault)) = ⊥
IsCheckOf format bytes old new (Err (faults.Tape fault)) = ⊥
IsCheckOf format bytes old new (Err faults.Serve) = ⊥
IsCheckOf format bytes old new (Err faults.Wire) = ⊥

-- what is written of a finding: its report, and its error is returned; a prefix of the report;
-- nothing if an allocation failed
abbrev pub IsFindingWritten : Format → Finding → Option (List ℕ) → Option (List ℕ) → Result (Unit {0}) RunFault → Type 0
IsFindingWritten format finding old new result =
    ((text : List ℕ) × IsReportIn format finding text
    × (((result ≡ Err (fault_of finding.fault)) × Appends old new text) ⊎ ((result ≡ Err faults.Write) × AppendsPart old new text)))
    ⊎ ((fault : MapFault) × (result ≡ Err (faults.Map fault)) × (is_memory fault ≡ true) × Keeps old new)

-- What is written about a tape: the whole of an output, or a prefix of it if the writer failed;
-- nothing if there is none, for its cause.
abbrev pub IsTapeWriting : ((List ℕ → Type 0) → Type 0) → (TapeReadFault → Type 0) → Option (List ℕ) → Option (List ℕ) → Result (Unit {0}) RunFault → Type 0
IsTapeWriting HasOutput why old new (Ok done) = HasOutput (λ text. Appends old new text)
IsTapeWriting HasOutput why old new (Err faults.Write) = HasOutput (λ text. AppendsPart old new text)
IsTapeWriting HasOutput why old new (Err (faults.Tape fault)) = why fault × Keeps old new
IsTapeWriting HasOutput why old new (Err (faults.Map fault)) = ⊥
IsTapeWriting HasOutput why old new (Err (faults.Canon fault)) = ⊥
IsTapeWriting HasOutput why old new (Err (faults.Script fault)) = ⊥
IsTapeWriting HasOutput why old new (Err faults.Read) = ⊥
IsTapeWriting HasOutput why old new (Err faults.Serve) = ⊥
IsTapeWriting HasOutput why old new (Err faults.Wire) = ⊥

-- P holds of the listing of some bytes, those of the file if they are known
abbrev pub HasListing : Option (List ℕ) → (List ℕ → Type 0) → Type 0
HasListing content P = (bytes text : List ℕ) × IfSome content (λ known. bytes ≡ known) × IsListing bytes text × P text

-- why a tape isn't listed: its file can't be read, if its content is known only since it is too
-- long; or an allocation failed
abbrev pub IsWhyListless : Option (List ℕ) → TapeReadFault → Type 0
IsWhyListless content tapes.Failed = IfSome content (λ known. most_tape_bytes < length known)
IsWhyListless content tapes.Memory = Unit {0}
IsWhyListless content tapes.NoMap = ⊥

-- What is written of a tape in a file: the listing of its bytes, which are the file's content, if
-- that is known.
abbrev pub IsListed : Option (List ℕ) → Option (List ℕ) → Option (List ℕ) → Result (Unit {0}) RunFault → Type 0
IsListed content old new result = IsTapeWriting (HasListing content) (IsWhyListless content) old new result

-- P holds of the text of the map that some bytes have as published under a sequence, those of the
-- file if they are known
abbrev pub HasMap : Option (List ℕ) → ℕ → (List ℕ → Type 0) → Type 0
HasMap content sequence P = (bytes : List ℕ) × ((text : Vec ℕ Global) × IfSome content (λ known. bytes ≡ known) × IsMapTextAt bytes sequence (Some text) × P text.items)

-- why such a map isn't written: the tape can't be read; an allocation failed; or it has none
abbrev pub IsWhyMapless : Option (List ℕ) → ℕ → TapeReadFault → Type 0
IsWhyMapless content sequence tapes.Failed = IfSome content (λ known. most_tape_bytes < length known)
IsWhyMapless content sequence tapes.Memory = Unit {0}
IsWhyMapless content sequence tapes.NoMap = (bytes : List ℕ) × IfSome content (λ known. bytes ≡ known) × IsMapTextAt bytes sequence None

-- What is written of a map on a tape in a file: its canonical text.
abbrev pub IsMapWritten : Option (List ℕ) → ℕ → Option (List ℕ) → Option (List ℕ) → Result (Unit {0}) RunFault → Type 0
IsMapWritten content sequence old new result = IsTapeWriting (HasMap content sequence) (IsWhyMapless content sequence) old new result

-- the outcome of a command over a reader and a writer; never of `tape` and `serve`
abbrev pub IsOutcomeOf : Line → Option (List ℕ) → Option (List ℕ) → Option (List ℕ) → Result (Unit {0}) RunFault → Type 0
IsOutcomeOf (lines.Caps seq query) input old new result = IsDefinitionOutcome (IsDescription seq query.now) (λ _ _. ⊥) input old new result
IsOutcomeOf (lines.Draw query) input old new result = IsDefinitionOutcome (IsPreview query.now) (λ _ _. ⊥) input old new result
IsOutcomeOf lines.Canon input old new result = IsDefinitionOutcome IsCanonical IsCauseOf input old new result
IsOutcomeOf (lines.Check format) input old new result = IsChecked format input old new result
IsOutcomeOf lines.Run input old new result = IsPlayed ⊥ input old new result
IsOutcomeOf lines.Wire input old new result = IsPlayed (Unit {0}) input old new result
IsOutcomeOf (lines.Tape file map) input old new result = ⊥
IsOutcomeOf (lines.Serve service) input old new result = ⊥
