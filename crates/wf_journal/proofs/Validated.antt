-- What the result of decode says about the bytes.
use Rattle.std.proofs.Common.{◌≡◌, ℕ, ◌+◌, ◌≤◌, true, List, [], ◌∷◌, ◌++◌, length, take, drop, Option, Some, Result, Ok, Err, refl, sym, ap, subst, ◌∙◌, length-append, arith}
use Rattle.std.proofs.Math.Seq.{take-append_seam, drop-append_seam}
use Rattle.std.proofs.lemmas.Option.{option_and_then_some, same_Some}
use Rattle.std.specs.Prelude.{IfOk, IfErr, IsErrOf}
use Rattle.wf_ballot.specs.Front.{AreBytes}
use Rattle.wf_ballot.specs.Field.{frame}
use Rattle.wf_def.specs.Definition.{Definition}
use Rattle.wf_canon.specs.Canon.{most_canon_bytes}
use Rattle.wf_canon.specs.TextMeaning.{OneTextOneMap}
use Rattle.wf_frame.specs.declared.fault.FrameFault.{FrameFault}
use Rattle.wf_frame.specs.declared.fault.FrameFault.TheVariants as frames
use Rattle.wf_frame.specs.Frame.{FrameFound, HasBody, frame_front}
use Rattle.wf_frame.specs.Frame as parts
use Rattle.wf_frame.specs.FrameTheorems as frame_theorems
use Rattle.wf_frame.specs.Layout.{Layout, fits}
use Rattle.wf_frame.specs.Row.{Row, row_bytes, row_layout, layout_of, read_row}
use Rattle.wf_frame.specs.RowTheorems.{row_stands}
use Rattle.wf_model.specs.DurableState.{Record}
use Rattle.wf_journal.specs.declared.version.Version.{Version}
use Rattle.wf_journal.specs.Version.{version_byte, version_of_byte, version_written, most_text}
use Rattle.wf_journal.specs.KindTable.{kinds}
use Rattle.wf_journal.specs.declared.fault.RecordFault.{RecordFault}
use Rattle.wf_journal.specs.declared.fault.RecordFault.TheVariants.{Torn, Bad, NotCanonical, Memory}
use Rattle.wf_journal.specs.Record.{texts, IsRecord}
use Rattle.wf_journal.specs.Encoding.{header_length, format, text_spelling, spelling, Encodes}
use Rattle.wf_journal.specs.EncodingTheorems.{length-text_spelling}
use Rattle.wf_journal.specs.FormatTheorems.{is_format, version_stands}
use Rattle.wf_journal.specs.Records.{BeginsWithNone, IsTorn, IsBad}
use Rattle.wf_journal.specs.Front.{BeginsWith}
use Rattle.wf_journal.specs.Stages.{record_fault, ReadsBody, IsRecordValidated, IsFaultOfBytes}
use Rattle.wf_journal.proofs.Texts.{has_kind, texts_apart, not_bad, text_is_within, row_of_record, body_of_record}

-- ---- a record at the front

-- the length of the header, of the fields and of the text
pub whole_length : (r : Record Definition) (fields text : List ℕ) (n k : ℕ) → row_bytes (texts r) ≡ fields ++ text → n ≡ length fields → k ≡ length text → header_length + (n + k) ≡ length (spelling r)
whole_length r fields text n k body same same_text = omega (arith, length-text_spelling version_written (texts r), ap length body, length-append fields text, same, same_text)

-- a record's encoding isn't empty
pub spelling_not_empty : (r : Record Definition) (spelled : List ℕ) → Encodes r spelled → 1 ≤ length spelled
spelling_not_empty r spelled encodes = omega (arith, ap length encodes.spelled, length-text_spelling encodes.version (texts r))

-- bytes that begin with a record's encoding: the frame that is split off
cut_of : (r : Record Definition) (spelled after bytes : List ℕ) (encodes : Encodes r spelled) → bytes ≡ spelled ++ after →
    frame_front format bytes ≡ Ok (version_byte encodes.version, (texts r).byte, row_bytes (texts r))
unfolding text_spelling
cut_of r spelled after bytes encodes e =
    let begins : bytes ≡ frame (version_byte encodes.version) (texts r).byte (row_bytes (texts r)) ++ after = e ∙ ap (λ (t : List ℕ). t ++ after) encodes.spelled in
    ap (frame_front format) begins ∙ frame_theorems.frame_again format is_format (version_byte encodes.version) (texts r).byte (row_bytes (texts r)) after (body_of_record encodes.version r encodes.is_record encodes.short)

abbrev ok : FrameFound → Result FrameFound FrameFault
ok x = Ok x

ok_same : (x y : FrameFound) → ok x ≡ ok y → x ≡ y
ok_same x y e = cc

some_same : (x y : Row (List ℕ)) → Some x ≡ Some y → x ≡ y
some_same x y e = cc

-- what is read of a frame
abbrev read_of : FrameFound → Option (Row (List ℕ))
read_of found = read_row (kinds most_canon_bytes) found.1 found.2

-- no encoding is a prefix of another's
pub none_begins_another : OneTextOneMap → (q r : Record Definition) (a b after_a after_b : List ℕ) → Encodes q a → Encodes r b →
    a ++ after_a ≡ b ++ after_b → (q ≡ r) × (a ≡ b) × (after_a ≡ after_b)
unfolding text_spelling
none_begins_another one_map q r a b after_a after_b encodes_a encodes_b e =
    let bytes_q : List ℕ = row_bytes (texts q) in
    let bytes_r : List ℕ = row_bytes (texts r) in
    let v : ℕ = version_byte encodes_a.version in
    let w : ℕ = version_byte encodes_b.version in
    let same_frames : frame v (texts q).byte bytes_q ++ after_a ≡ frame w (texts r).byte bytes_r ++ after_b =
    sym (ap (λ (t : List ℕ). t ++ after_a) encodes_a.spelled) ∙ e ∙ ap (λ (t : List ℕ). t ++ after_b) encodes_b.spelled in
    let same = frame_theorems.one_frame format is_format v (texts q).byte w (texts r).byte bytes_q bytes_r after_a after_b
    (body_of_record encodes_a.version q encodes_a.is_record encodes_a.short) (body_of_record encodes_b.version r encodes_b.is_record encodes_b.short) same_frames in
    let same_texts : texts q ≡ texts r = some_same (texts q) (texts r) (sym (row_of_record q encodes_a.is_record) ∙ ap read_of same ∙ row_of_record r encodes_b.is_record) in
    let same_bytes : a ≡ b = encodes_a.spelled ∙ ap (λ (x : FrameFound). frame x.0 x.1 x.2) same ∙ sym encodes_b.spelled in (
      texts_apart one_map q r encodes_a.is_record encodes_b.is_record same_texts,
      same_bytes,
      sym (drop-append_seam a after_a) ∙ ap (drop (length a)) e ∙ ap (λ (t : List ℕ). drop (length t) (b ++ after_b)) same_bytes ∙ drop-append_seam b after_b,
    )

-- ---- the result of decode

-- the version and the kind of a frame that was split off
record IsOfVersion (v byte : ℕ) (layout : Layout) : Type 0 where
  version : Version
  version_is : v ≡ version_byte version
  has_kind : layout_of (kinds (most_text version)) byte ≡ Some layout

version_of : (v byte : ℕ) (body : List ℕ) (has : HasBody format v byte body) → IsOfVersion v byte has.layout
version_of v byte body has =
    option_and_then_some (λ version. layout_of (kinds (most_text version)) byte) (version_of_byte v) has.layout has.has_kind (λ version is goes.
    record { version = version; version_is = version_stands v version is; has_kind = goes })

begins_by : {X : Type 0} (view : X → Record Definition) (x : X × ℕ) (bytes : List ℕ) (r : Result FrameFound FrameFault) → frame_front format bytes ≡ r → AreBytes bytes →
    IsRecordValidated view (Ok x) r → BeginsWith bytes (view x.0) x.1
unfolding text_spelling
begins_by view x bytes (Err fault) is are_bytes validated = absurd cc
begins_by view x bytes (Ok found) is are_bytes validated =
    let framed = frame_theorems.frame_stands format bytes found.0 found.1 found.2 are_bytes is in
    let of = version_of found.0 found.1 found.2 framed.has_body in
    let most : ℕ = most_text of.version in
    let r : Row (List ℕ) = texts (view x.0) in
    let reads = validated.0 most in
    let stands = row_stands (kinds most) found.1 framed.has_body.layout found.2 r of.has_kind framed.body_bytes framed.has_body.has_length reads.0 in
    let known : layout_of (kinds most) found.1 ≡ Some (row_layout most r) = ap (layout_of (kinds most)) (sym stands.0) ∙ has_kind most (view x.0) in
    let same_layout : framed.has_body.layout ≡ row_layout most r = same_Some framed.has_body.layout (row_layout most r) (sym of.has_kind ∙ known) in
    let has : fits (row_layout most r) (length (row_bytes r)) ≡ true =
    subst (λ (l : Layout). fits l (length (row_bytes r)) ≡ true) same_layout (subst (λ (b : List ℕ). fits framed.has_body.layout (length b) ≡ true) stands.1 framed.has_body.has_length) in
    let spelled : frame found.0 found.1 found.2 ≡ text_spelling of.version r =
    ap (λ (v : ℕ). frame v found.1 found.2) of.version_is ∙ ap (λ (k : ℕ). frame (version_byte of.version) k found.2) (sym stands.0) ∙ ap (λ (b : List ℕ). frame (version_byte of.version) r.byte b) stands.1 in
    let parts : bytes ≡ text_spelling of.version r ++ framed.rest = framed.parts ∙ ap (λ (t : List ℕ). t ++ framed.rest) spelled in
    let count : x.1 ≡ length (text_spelling of.version r) = validated.1 ∙ ap (λ (b : List ℕ). header_length + length b) stands.1 ∙ sym (length-text_spelling of.version r) in
    record {
      not_empty = omega (arith, validated.1);
      within = omega (arith, count, ap length parts, length-append (text_spelling of.version r) framed.rest);
      encodes = record {
        is_record = reads.1;
        version = of.version;
        short = text_is_within most (view x.0) has;
        spelled = ap (take x.1) parts ∙ ap (λ (n : ℕ). take n (text_spelling of.version r ++ framed.rest)) count ∙ take-append_seam (text_spelling of.version r) framed.rest;
      };
    }

-- the record that is read is at the front
pub begins : {X : Type 0} (view : X → Record Definition) (result : Result (X × ℕ) RecordFault) (bytes : List ℕ) → AreBytes bytes → IsRecordValidated view result (frame_front format bytes) →
    IfOk result (λ x. BeginsWith bytes (view x.0) x.1)
begins view (Ok x) bytes are_bytes validated = begins_by view x bytes (frame_front format bytes) refl are_bytes validated
begins view (Err e) bytes are_bytes validated = tt

abbrev error : {X : Type 0} → RecordFault → Result X RecordFault
error fault = Err fault

err_same : {X : Type 0} (d e : RecordFault) → error {X = X} d ≡ error e → d ≡ e
err_same d e same = cc

is_short : (fault : FrameFault) → record_fault fault ≡ Torn → fault ≡ frames.Short
is_short frames.Short e = refl
is_short frames.BadVersion e = absurd cc
is_short frames.BadKind e = absurd cc
is_short frames.TooLong e = absurd cc
is_short frames.BadLength e = absurd cc

abbrev frame_error : FrameFault → Result FrameFound FrameFault
frame_error fault = Err fault

torn_by : {X : Type 0} (view : X → Record Definition) (result : Result (X × ℕ) RecordFault) (r : Result FrameFound FrameFault) → IsRecordValidated view result r → result ≡ Err Torn → r ≡ Err frames.Short
torn_by {X} view result (Err fault) validated torn = ap frame_error (is_short fault (err_same {X = X × ℕ} (record_fault fault) Torn (sym validated ∙ torn)))
torn_by {X} view result (Ok found) validated torn =
    absurd (subst (λ (a : Result (X × ℕ) RecordFault). ReadsBody (λ (x : X × ℕ). view x.0) a (read_of found)) torn (validated.0 most_canon_bytes))

-- part of a frame is a torn record
torn_record : (bytes : List ℕ) → (bytes ≡ [] → ⊥) → parts.IsUnfinishedFrame format bytes → IsTorn bytes
torn_record [] some unfinished = some refl
torn_record (byte ∷ bytes) some unfinished = unfinished

torn_frame : (bytes : List ℕ) → IsTorn bytes → parts.IsUnfinishedFrame format bytes
torn_frame [] torn = absurd torn
torn_frame (byte ∷ bytes) torn = torn

torn_validated : (bytes : List ℕ) → IsTorn bytes → frame_front format bytes ≡ Err frames.Short
torn_validated bytes torn = frame_theorems.unfinished_is_short format is_format bytes (torn_frame bytes torn)

-- bytes for which Torn is returned are torn
pub is_torn : {X : Type 0} (view : X → Record Definition) (result : Result (X × ℕ) RecordFault) (bytes : List ℕ) → IsRecordValidated view result (frame_front format bytes) → IsErrOf result Torn → (bytes ≡ [] → ⊥) → IsTorn bytes
is_torn view result bytes validated torn some = torn_record bytes some (frame_theorems.short_is_unfinished format bytes (torn_by view result (frame_front format bytes) validated torn))

framed_torn : (bytes : List ℕ) → frame_front format bytes ≡ Err frames.Short → BeginsWithNone bytes
framed_torn bytes torn r spelled after encodes e = let whole = cut_of r spelled after bytes encodes e in absurd cc

-- and begin with no record
pub torn_begins_none : {X : Type 0} (view : X → Record Definition) (result : Result (X × ℕ) RecordFault) (bytes : List ℕ) → IsRecordValidated view result (frame_front format bytes) → IsErrOf result Torn → BeginsWithNone bytes
torn_begins_none view result bytes validated torn = framed_torn bytes (torn_by view result (frame_front format bytes) validated torn)

body_rejected : {X : Type 0} (view : X → Record Definition) (fault : RecordFault) (r : Record Definition) → IsFaultOfBytes fault → IsRecord r → ReadsBody (λ (x : X × ℕ). view x.0) (Err fault) (Some (texts r)) → ⊥
body_rejected view Torn r of_bytes is_record reads = reads
body_rejected view Bad r of_bytes is_record reads = absurd cc
body_rejected view NotCanonical r of_bytes is_record reads = not_bad r is_record reads
body_rejected view Memory r of_bytes is_record reads = of_bytes

not_torn_fault : (fault : RecordFault) → IsFaultOfBytes fault → fault ≡ Torn → ⊥
not_torn_fault fault of_bytes torn = subst IsFaultOfBytes torn of_bytes

frame_same : (d e : FrameFault) → frame_error d ≡ frame_error e → d ≡ e
frame_same d e same = cc

bad_by : {X : Type 0} (view : X → Record Definition) (fault : RecordFault) (bytes : List ℕ) (r : Result FrameFound FrameFault) → frame_front format bytes ≡ r → IsRecordValidated view (Err fault) r →
    IsFaultOfBytes fault → (bytes ≡ [] → ⊥) → IsBad bytes
bad_by {X} view fault bytes (Err found) is validated of_bytes some =
    let same : fault ≡ record_fault found = err_same {X = X × ℕ} fault (record_fault found) validated in
    record {
      longest = λ r spelled after encodes e. let whole = cut_of r spelled after bytes encodes e in absurd cc;
      not_clean = some;
      not_torn = λ torn. let found_short : found ≡ frames.Short = frame_same found frames.Short (sym is ∙ torn_validated bytes torn) in not_torn_fault fault of_bytes (same ∙ ap record_fault found_short);
    }
bad_by {X} view fault bytes (Ok found) is validated of_bytes some =
    record {
      longest = λ r spelled after encodes e.
          let same_frame = ok_same (found.0, found.1, found.2) (version_byte encodes.version, (texts r).byte, row_bytes (texts r)) (sym is ∙ cut_of r spelled after bytes encodes e) in
          let read = ap read_of same_frame ∙ row_of_record r encodes.is_record in
          body_rejected view fault r of_bytes encodes.is_record (subst (λ (o : Option (Row (List ℕ))). ReadsBody (λ (x : X × ℕ). view x.0) (Err fault) o) read (validated.0 most_canon_bytes));
      not_clean = some;
      not_torn = λ torn. let e = torn_validated bytes torn in absurd cc;
    }

-- rejected bytes are bad
pub is_bad : {X : Type 0} (view : X → Record Definition) (result : Result (X × ℕ) RecordFault) (bytes : List ℕ) → IsRecordValidated view result (frame_front format bytes) →
    IfErr result (λ fault. IsFaultOfBytes fault → (bytes ≡ [] → ⊥) → IsBad bytes)
is_bad view (Ok x) bytes validated = tt
is_bad view (Err fault) bytes validated = bad_by view fault bytes (frame_front format bytes) refl validated
