-- What the result of decode says about the bytes: they begin with the message, or never will begin
-- with one, or more bytes are needed.
use Rattle.std.proofs.Common.{◌≡◌, ℕ, ◌+◌, ◌≤◌, List, ◌++◌, length, take, drop, Option, Some, Result, Ok, Err, refl, sym, ap, subst, ◌∙◌, append_assoc, length-append, arith}
use Rattle.std.proofs.Math.Seq.{take-append_seam, drop-append_seam}
use Rattle.std.proofs.lemmas.Bool.{eqb-true}
use Rattle.std.proofs.lemmas.List.{length-take}
use Rattle.std.specs.Prelude.{IfOk, IfErr, IsErrOf}
use Rattle.wf_ballot.specs.Front.{AreBytes}
use Rattle.wf_def.specs.Definition.{Definition}
use Rattle.wf_canon.specs.TextMeaning.{OneTextOneMap}
use Rattle.wf_frame.specs.declared.fault.FrameFault.{FrameFault}
use Rattle.wf_frame.specs.declared.fault.FrameFault.TheVariants as frames
use Rattle.wf_ballot.specs.Field.{frame}
use Rattle.wf_frame.specs.Frame.{FrameFound, frame_front}
use Rattle.wf_frame.specs.FrameTheorems as frame_theorems
use Rattle.wf_frame.specs.Row.{Row, row_bytes, read_row}
use Rattle.wf_frame.specs.RowTheorems.{row_stands}
use Rattle.wf_model.specs.Message.{Message}
use Rattle.wf_codec.specs.declared.fault.DecodeFault.{DecodeFault}
use Rattle.wf_codec.specs.declared.fault.DecodeFault.TheVariants.{Short, BadVersion, BadKind, BadField, NotCanonical, TooLong, Memory}
use Rattle.wf_codec.specs.KindTable.{kinds}
use Rattle.wf_codec.specs.Message.{texts, HasDefinition, IsMessage}
use Rattle.wf_codec.specs.Encoding.{message_version, header_length, format, text_spelling, spelling, Spells}
use Rattle.wf_codec.specs.FormatTheorems.{is_format}
use Rattle.wf_codec.specs.Stages.{decode_fault, ReadsBodyAs}
use Rattle.wf_codec.specs.Theorem.{OneSpelling, NoneBeginsAnother, NoneIsEmpty, BeginsWith, BeginsWithNone, NeverBegins, IsLastingFault, IsUnfinished, IsReadAs, IsValidated}
use Rattle.wf_codec.proofs.Texts.{texts_apart, text_is_definition, not_bad, row_of_message, body_of_message}
use Rattle.wf_codec.proofs.Encoded.{length-text_spelling}

-- ---- a message at the front

-- bytes that begin with a message's encoding: the frame that is split off
cut_of : (m : Message Definition) (spelled after bytes : List ℕ) → Spells m spelled → bytes ≡ spelled ++ after →
    frame_front format bytes ≡ Ok (message_version, (texts m).byte, row_bytes (texts m))
unfolding text_spelling
cut_of m spelled after bytes spells e =
    let begins : bytes ≡ frame message_version (texts m).byte (row_bytes (texts m)) ++ after = e ∙ ap (λ (t : List ℕ). t ++ after) spells.spelled in
    ap (frame_front format) begins ∙ frame_theorems.frame_again format is_format message_version (texts m).byte (row_bytes (texts m)) after (body_of_message m spells.is_message)

-- ---- the theorems

pub one_spelling : OneSpelling
one_spelling m a b spells_a spells_b = spells_a.spelled ∙ sym spells_b.spelled

some_same : {A : Type 0} (x y : A) → Some x ≡ Some y → x ≡ y
some_same x y e = cc

abbrev ok : FrameFound → Result FrameFound FrameFault
ok x = Ok x

ok_same : (x y : FrameFound) → ok x ≡ ok y → x ≡ y
ok_same x y e = cc

pub none_is_empty : NoneIsEmpty
none_is_empty m bytes spells = omega (arith, ap length spells.spelled, length-text_spelling (texts m))

-- what is read of a frame
abbrev read_of : FrameFound → Option (Row (List ℕ))
read_of found = read_row kinds found.1 found.2

pub none_begins_another : OneTextOneMap → NoneBeginsAnother
unfolding text_spelling
none_begins_another one_map m n a b after_a after_b spells_a spells_b e =
    let same_bytes : spelling m ++ after_a ≡ spelling n ++ after_b = sym (ap (λ (t : List ℕ). t ++ after_a) spells_a.spelled) ∙ e ∙ ap (λ (t : List ℕ). t ++ after_b) spells_b.spelled in
    let same_frame = frame_theorems.one_frame format is_format message_version (texts m).byte message_version (texts n).byte (row_bytes (texts m)) (row_bytes (texts n)) after_a after_b
    (body_of_message m spells_a.is_message) (body_of_message n spells_b.is_message) same_bytes in
    let same_texts : texts m ≡ texts n =
    some_same (texts m) (texts n) (sym (row_of_message m spells_a.is_message) ∙ ap read_of same_frame ∙ row_of_message n spells_b.is_message) in
    let same : a ≡ b = spells_a.spelled ∙ ap text_spelling same_texts ∙ sym spells_b.spelled in (
      texts_apart one_map m n spells_a.is_message spells_b.is_message same_texts,
      same,
      sym (drop-append_seam a after_a) ∙ ap (drop (length a)) e ∙ ap (λ (t : List ℕ). drop (length t) (b ++ after_b)) same ∙ drop-append_seam b after_b,
    )

-- ---- the result of decode

begins_by : {X : Type 0} (view : X → Message Definition) (x : X × ℕ) (bytes : List ℕ) (r : Result FrameFound FrameFault) → frame_front format bytes ≡ r → AreBytes bytes →
    IsValidated view (Ok x) r → BeginsWith bytes (view x.0) x.1
unfolding text_spelling
begins_by view x bytes (Err fault) is fits validated = absurd cc
begins_by view x bytes (Ok found) is fits validated =
    let r : Row (List ℕ) = texts (view x.0) in
    let framed = frame_theorems.frame_stands format bytes found.0 found.1 found.2 fits is in
    let own : found.0 ≡ message_version = eqb-true found.0 message_version framed.has_body.is_read in
    let stands = row_stands kinds found.1 framed.has_body.layout found.2 r framed.has_body.has_kind framed.body_bytes framed.has_body.has_length validated.0.0 in
    let spelled : frame found.0 found.1 found.2 ≡ spelling (view x.0) =
    ap (λ (v : ℕ). frame v found.1 found.2) own ∙ ap (λ (k : ℕ). frame message_version k found.2) (sym stands.0) ∙ ap (λ (b : List ℕ). frame message_version r.byte b) stands.1 in
    let parts : bytes ≡ spelling (view x.0) ++ framed.rest = framed.parts ∙ ap (λ (t : List ℕ). t ++ framed.rest) spelled in
    let count : x.1 ≡ length (spelling (view x.0)) = validated.1 ∙ ap (λ (b : List ℕ). header_length + length b) stands.1 ∙ sym (length-text_spelling r) in
    record {
      within = omega (arith, count, ap length parts, length-append (spelling (view x.0)) framed.rest);
      spells = record {
        is_message = validated.0.1;
        spelled = ap (take x.1) parts ∙ ap (λ (n : ℕ). take n (spelling (view x.0) ++ framed.rest)) count ∙ take-append_seam (spelling (view x.0)) framed.rest;
      };
    }

-- a length that is at least 1 and at most that of the bytes
counted : (bytes : List ℕ) (m : Message Definition) (k : ℕ) → BeginsWith bytes m k → (1 ≤ k) × (k ≤ length bytes)
counted bytes m k begins = (omega (arith, none_is_empty m (take k bytes) begins.spells, length-take k bytes), begins.within)

-- the message that is read is at the front
pub begins : {X : Type 0} (view : X → Message Definition) (result : Result (X × ℕ) DecodeFault) (bytes : List ℕ) → AreBytes bytes → IsValidated view result (frame_front format bytes) →
    IfOk result (λ x. BeginsWith bytes (view x.0) x.1)
begins view (Ok x) bytes fits validated = begins_by view x bytes (frame_front format bytes) refl fits validated
begins view (Err e) bytes fits validated = tt

-- the message that is read has at least one byte, and no more than there are
pub has_bytes : {X : Type 0} (view : X → Message Definition) (result : Result (X × ℕ) DecodeFault) (bytes : List ℕ) → IfOk result (λ x. BeginsWith bytes (view x.0) x.1) →
    IfOk result (λ x. (1 ≤ x.1) × (x.1 ≤ length bytes))
has_bytes view (Ok x) bytes begins = counted bytes (view x.0) x.1 begins
has_bytes view (Err e) bytes begins = tt

read_by : {X : Type 0} → OneTextOneMap → (view : X → Message Definition) (result : Result (X × ℕ) DecodeFault) (m : Message Definition) (k : ℕ) → IsMessage m →
    ReadsBodyAs (λ x. view x.0) result (Some (texts m)) → IfOk result (λ x. x.1 ≡ k) → IsReadAs view result m k
read_by one_map view (Ok x) m k is_message reads count = (texts_apart one_map (view x.0) m reads.1 is_message (some_same (texts (view x.0)) (texts m) (sym reads.0)), count)
read_by one_map view (Err Short) m k is_message reads count = absurd reads
read_by one_map view (Err BadVersion) m k is_message reads count = absurd reads
read_by one_map view (Err BadKind) m k is_message reads count = absurd reads
read_by one_map view (Err BadField) m k is_message reads count = absurd cc
read_by one_map view (Err NotCanonical) m k is_message reads count = absurd (not_bad m is_message reads)
read_by one_map view (Err TooLong) m k is_message reads count = absurd reads
read_by one_map view (Err Memory) m k is_message reads count = (refl, text_is_definition m reads)

-- a message at the front is read, unless allocation fails
pub whole_is_read : {X : Type 0} → OneTextOneMap → (view : X → Message Definition) (result : Result (X × ℕ) DecodeFault) (bytes : List ℕ) → IsValidated view result (frame_front format bytes) →
    (m : Message Definition) (spelled after : List ℕ) → Spells m spelled → bytes ≡ spelled ++ after → IsReadAs view result m (length spelled)
whole_is_read one_map view result bytes validated m spelled after spells e =
    let cut : IsValidated view result (Ok (message_version, (texts m).byte, row_bytes (texts m))) =
    subst (λ (r : Result FrameFound FrameFault). IsValidated view result r) (cut_of m spelled after bytes spells e) validated in
    let reads : ReadsBodyAs (λ x. view x.0) result (Some (texts m)) =
    subst (λ (o : Option (Row (List ℕ))). ReadsBodyAs (λ x. view x.0) result o) (row_of_message m spells.is_message) cut.0 in
    let count : header_length + length (row_bytes (texts m)) ≡ length spelled = sym (length-text_spelling (texts m)) ∙ ap length (sym spells.spelled) in
    subst (λ (k : ℕ). IsReadAs view result m k) count (read_by one_map view result m (header_length + length (row_bytes (texts m))) spells.is_message reads cut.1)

rejection_not_short : (e : DecodeFault) → IsLastingFault e → e ≡ Short → ⊥
rejection_not_short e rejection short = subst IsLastingFault short rejection

never_rejected : {X : Type 0} (view : X → Message Definition) (e : DecodeFault) (m : Message Definition) → IsLastingFault e → IsMessage m → ReadsBodyAs (λ (x : X × ℕ). view x.0) (Err e) (Some (texts m)) → ⊥
never_rejected view Short m rejection is_message reads = reads
never_rejected view BadVersion m rejection is_message reads = reads
never_rejected view BadKind m rejection is_message reads = reads
never_rejected view BadField m rejection is_message reads = absurd cc
never_rejected view NotCanonical m rejection is_message reads = not_bad m is_message reads
never_rejected view TooLong m rejection is_message reads = reads
never_rejected view Memory m rejection is_message reads = rejection

fault_not_short : (e : DecodeFault) (fault : FrameFault) → IsLastingFault e → e ≡ decode_fault fault → fault ≡ frames.Short → ⊥
fault_not_short e fault rejection same short = rejection_not_short e rejection (same ∙ ap decode_fault short)

abbrev error : {X : Type 0} → DecodeFault → Result X DecodeFault
error fault = Err fault

err_same : {X : Type 0} (d e : DecodeFault) → error {X = X} d ≡ error e → d ≡ e
err_same d e same = cc

-- A frame that is split off bytes is split off longer bytes too; if it is rejected, longer bytes
-- are rejected too.
rejected_by : {X : Type 0} (view : X → Message Definition) (e : DecodeFault) (bytes : List ℕ) (r : Result FrameFound FrameFault) → frame_front format bytes ≡ r → AreBytes bytes →
    IsValidated view (Err e) r → IsLastingFault e → NeverBegins bytes
rejected_by {X} view e bytes (Err fault) is fits validated rejection more m spelled after spells same =
    let fault_is : e ≡ decode_fault fault = err_same {X = X × ℕ} e (decode_fault fault) validated in
    let on = frame_theorems.frame_goes_on format bytes more fault is (fault_not_short e fault rejection fault_is) in
    let cut = cut_of m spelled after (bytes ++ more) spells same in
    absurd cc
rejected_by {X} view e bytes (Ok found) is fits validated rejection more m spelled after spells same =
    let framed = frame_theorems.frame_stands format bytes found.0 found.1 found.2 fits is in
    let longer : bytes ++ more ≡ frame found.0 found.1 found.2 ++ (framed.rest ++ more) =
    ap (λ (t : List ℕ). t ++ more) framed.parts ∙ append_assoc (frame found.0 found.1 found.2) framed.rest more in
    let again = ap (frame_front format) longer ∙ frame_theorems.frame_again format is_format found.0 found.1 found.2 (framed.rest ++ more) framed.has_body in
    let cut = cut_of m spelled after (bytes ++ more) spells same in
    let same_frame = ok_same (found.0, found.1, found.2) (message_version, (texts m).byte, row_bytes (texts m)) (sym again ∙ cut) in
    let read = ap read_of same_frame ∙ row_of_message m spells.is_message in
    never_rejected view e m rejection spells.is_message (subst (λ (o : Option (Row (List ℕ))). ReadsBodyAs (λ (x : X × ℕ). view x.0) (Err e) o) read validated.0)

-- rejected bytes never begin with a message, whatever follows
pub refused : {X : Type 0} (view : X → Message Definition) (result : Result (X × ℕ) DecodeFault) (bytes : List ℕ) → AreBytes bytes → IsValidated view result (frame_front format bytes) →
    IfErr result (λ e. IsLastingFault e → NeverBegins bytes)
refused view (Ok x) bytes fits validated = tt
refused view (Err e) bytes fits validated = rejected_by view e bytes (frame_front format bytes) refl fits validated

is_short : (fault : FrameFault) → decode_fault fault ≡ Short → fault ≡ frames.Short
is_short frames.Short e = refl
is_short frames.BadVersion e = absurd cc
is_short frames.BadKind e = absurd cc
is_short frames.TooLong e = absurd cc
is_short frames.BadLength e = absurd cc

abbrev frame_error : FrameFault → Result FrameFound FrameFault
frame_error fault = Err fault

short_by : {X : Type 0} (view : X → Message Definition) (result : Result (X × ℕ) DecodeFault) (r : Result FrameFound FrameFault) → IsValidated view result r → result ≡ Err Short → r ≡ Err frames.Short
short_by {X} view result (Err fault) validated short = ap frame_error (is_short fault (err_same {X = X × ℕ} (decode_fault fault) Short (sym validated ∙ short)))
short_by {X} view result (Ok found) validated short =
    absurd (subst (λ (a : Result (X × ℕ) DecodeFault). ReadsBodyAs (λ (x : X × ℕ). view x.0) a (read_row kinds found.1 found.2)) short validated.0)

-- if Short is returned, more bytes are needed
pub short_unfinished : {X : Type 0} (view : X → Message Definition) (result : Result (X × ℕ) DecodeFault) (bytes : List ℕ) → IsValidated view result (frame_front format bytes) → IsErrOf result Short → IsUnfinished bytes
short_unfinished view result bytes validated short =
    frame_theorems.short_is_unfinished format bytes (short_by view result (frame_front format bytes) validated short)

-- and conversely
pub unfinished_short : {X : Type 0} (view : X → Message Definition) (result : Result (X × ℕ) DecodeFault) (bytes : List ℕ) → IsValidated view result (frame_front format bytes) → IsUnfinished bytes → IsErrOf result Short
unfinished_short view result bytes validated unfinished =
    subst (λ (r : Result FrameFound FrameFault). IsValidated view result r) (frame_theorems.unfinished_is_short format is_format bytes unfinished) validated

not_read_short : {X : Type 0} (view : X → Message Definition) (result : Result (X × ℕ) DecodeFault) (m : Message Definition) (k : ℕ) → result ≡ Err Short → IsReadAs view result m k → ⊥
not_read_short {X} view result m k short is_read =
    let memory : (Short ≡ Memory) × HasDefinition m = subst (λ (a : Result (X × ℕ) DecodeFault). IsReadAs view a m k) short is_read in
    let same : Short ≡ Memory = memory.0 in cc

-- bytes for which Short is returned don't begin with a message
pub short_is_none : {X : Type 0} → OneTextOneMap → (view : X → Message Definition) (result : Result (X × ℕ) DecodeFault) (bytes : List ℕ) → IsValidated view result (frame_front format bytes) → IsErrOf result Short → BeginsWithNone bytes
short_is_none one_map view result bytes validated short m spelled after spells e = not_read_short view result m (length spelled) short (whole_is_read one_map view result bytes validated m spelled after spells e)
