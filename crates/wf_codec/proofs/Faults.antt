-- The decoder returns the error of the first check that fails, or else that of a text.
use Rattle.std.proofs.Common.{◌≡◌, ℕ, Bool, true, false, cond, eqb, ltb, List, [], ◌∷◌, length, take, Option, Some, None, Result, Ok, Err, refl, sym, ap, subst, ◌∙◌}
use Rattle.std.specs.Prelude.{is_some, option_map, IsSomeAnd, MatchResult, IsErrOf}
use Rattle.std.specs.Int.{w32, from_be_bytes}
use Rattle.wf_def.specs.Definition.{Definition}
use Rattle.wf_frame.specs.declared.fault.FrameFault.{FrameFault}
use Rattle.wf_frame.specs.declared.fault.FrameFault.TheVariants as frames
use Rattle.wf_frame.specs.Layout.{Layout, fits}
use Rattle.wf_frame.specs.Layout as layouts
use Rattle.wf_frame.specs.Row.{Row, end_definitions, layout_of, read_row}
use Rattle.wf_frame.specs.RowTheorems.{row_checked}
use Rattle.wf_frame.specs.Frame.{FrameFound, body_front, length_front, kind_front, frame_front}
use Rattle.wf_model.specs.Message.{Message}
use Rattle.wf_codec.specs.declared.fault.DecodeFault.{DecodeFault}
use Rattle.wf_codec.specs.declared.fault.DecodeFault.TheVariants.{Short, BadVersion, BadKind, BadField, NotCanonical, TooLong, Memory}
use Rattle.wf_codec.specs.KindTable.{kinds, most_body_bytes}
use Rattle.wf_codec.specs.Message.{texts, HasOne, HasOneOf}
use Rattle.wf_codec.specs.Encoding.{message_version, format}
use Rattle.wf_codec.specs.Fault.{texts_of_kind, behind_header, body_in, check_longest, check_length, check_whole, check_fields, first_failing, first_fault, texts_in, layout_in, length_in, CarriesText, CarriesNoText, HasFault, IsNoText}
use Rattle.wf_codec.specs.Stages.{decode_fault, ReadsBodyAs}
use Rattle.wf_codec.specs.Theorem.{IsValidated}

-- ---- the frame

-- the checks and the text agree with the frame that was split off
abbrev FrameIsChecked : Option DecodeFault → List (List ℕ) → Result FrameFound FrameFault → Type 0
FrameIsChecked fault text (Ok found) = (layout : Layout) × (layout_of kinds found.1 ≡ Some layout) × (fault ≡ check_fields (Some layout) found.2) × (text ≡ layouts.texts_in layout found.2)
FrameIsChecked fault text (Err e) = fault ≡ Some (decode_fault e)

alone : (o : Option DecodeFault) → first_failing (o ∷ []) ≡ o
alone None = refl
alone (Some e) = refl

version_checked : (b : Bool) (checks : List (Option DecodeFault)) (text : List (List ℕ)) (r : Result FrameFound FrameFault) → FrameIsChecked (first_failing checks) text r →
    FrameIsChecked (first_failing (cond b None (Some BadVersion) ∷ checks)) text (cond b r (Err frames.BadVersion))
version_checked true checks text r checked = checked
version_checked false checks text r checked = refl

body_checked : (long has few : Bool) (version byte : ℕ) (layout : Layout) (body : List ℕ) → layout_of kinds byte ≡ Some layout →
    FrameIsChecked (first_failing (cond long (Some TooLong) None ∷ cond has None (Some BadField) ∷ cond few (Some Short) None ∷ check_fields (Some layout) body ∷ [])) (layouts.texts_in layout body)
    (cond long (Err frames.TooLong) (cond has (cond few (Err frames.Short) (Ok (version, byte, body))) (Err frames.BadLength)))
body_checked true has few version byte layout body known = refl
body_checked false false few version byte layout body known = refl
body_checked false true true version byte layout body known = refl
body_checked false true false version byte layout body known = (layout, known, alone (check_fields (Some layout) body), refl)

-- the checks after that of the version, if the kind's byte is there
kind_checked : (version byte : ℕ) (o : Option Layout) (bytes : List ℕ) → layout_of kinds byte ≡ o →
    FrameIsChecked (first_failing (
    cond (is_some o) None (Some BadKind)
    ∷ check_longest (length_in (version ∷ byte ∷ bytes))
    ∷ check_length o (length_in (version ∷ byte ∷ bytes))
    ∷ check_whole (length_in (version ∷ byte ∷ bytes)) (behind_header (version ∷ byte ∷ bytes))
    ∷ check_fields o (body_in (version ∷ byte ∷ bytes))
    ∷ []))
    (texts_of_kind o (body_in (version ∷ byte ∷ bytes))) (length_front format version byte o bytes)
unfolding length_in length_front body_front
kind_checked version byte None bytes known = refl
kind_checked version byte (Some layout) [] known = refl
kind_checked version byte (Some layout) (a ∷ []) known = refl
kind_checked version byte (Some layout) (a ∷ b ∷ []) known = refl
kind_checked version byte (Some layout) (a ∷ b ∷ c ∷ []) known = refl
kind_checked version byte (Some layout) (a ∷ b ∷ c ∷ d ∷ bytes) known =
    let n : ℕ = from_be_bytes w32 (a ∷ b ∷ c ∷ d ∷ []) in
    body_checked (ltb most_body_bytes n) (fits layout n) (ltb (length bytes) n) version byte layout (take n bytes) known

frame_checked : (bytes : List ℕ) → FrameIsChecked (first_fault bytes) (texts_in bytes) (frame_front format bytes)
unfolding first_fault layout_in length_in kind_front frame_front
frame_checked [] = refl
frame_checked (version ∷ []) = version_checked (eqb version message_version) (None ∷ None ∷ None ∷ Some Short ∷ None ∷ []) [] (Err frames.Short) refl
frame_checked (version ∷ byte ∷ bytes) = version_checked (eqb version message_version) _ _ _ (kind_checked version byte (layout_of kinds byte) bytes refl)

-- ---- what is returned

there : (has : Bool) (text value : List (List ℕ)) → Some value ≡ cond has (Some text) None → (has ≡ true) × (value ≡ text)
there true text value e = (refl, cc)
there false text value e = absurd cc

missing : (has : Bool) (text : List (List ℕ)) → None ≡ cond has (Some text) None → has ≡ false
missing true text e = absurd cc
missing false text e = refl

-- the checks of bytes that begin with a whole frame
record BeginsWithFrame (bytes : List ℕ) (byte : ℕ) (body : List ℕ) : Type 0 where
  layout : Layout
  known : layout_of kinds byte ≡ Some layout
  fault : first_fault bytes ≡ check_fields (Some layout) body
  text : texts_in bytes ≡ layouts.texts_in layout body

-- the body is a message's: no check of its fields fails, and its texts are those in it
fields_there : (bytes : List ℕ) (byte : ℕ) (body : List ℕ) (r : Row (List ℕ)) → BeginsWithFrame bytes byte body → read_row kinds byte body ≡ Some r →
    (first_fault bytes ≡ None) × (end_definitions r.ending ≡ texts_in bytes)
fields_there bytes byte body r begins e =
    let has : Bool = layouts.has_fields begins.layout body in
    let (passes, same) = there has (layouts.texts_in begins.layout body) (end_definitions r.ending)
    (sym (ap (option_map (λ (read : Row (List ℕ)). end_definitions read.ending)) e) ∙ row_checked kinds byte begins.layout body begins.known) in
    (begins.fault ∙ ap (λ (b : Bool). cond b None (Some BadField)) passes, same ∙ sym begins.text)

fields_missing : (bytes : List ℕ) (byte : ℕ) (body : List ℕ) → BeginsWithFrame bytes byte body → read_row kinds byte body ≡ None → first_fault bytes ≡ Some BadField
fields_missing bytes byte body begins e =
    let fails = missing (layouts.has_fields begins.layout body) (layouts.texts_in begins.layout body)
    (sym (ap (option_map (λ (read : Row (List ℕ)). end_definitions read.ending)) e) ∙ row_checked kinds byte begins.layout body begins.known) in
    begins.fault ∙ ap (λ (b : Bool). cond b None (Some BadField)) fails

no_text : (bytes : List ℕ) (byte : ℕ) (body : List ℕ) (o : Option (Row (List ℕ))) → BeginsWithFrame bytes byte body → read_row kinds byte body ≡ o →
    IsSomeAnd o (λ r. HasOneOf IsNoText (end_definitions r.ending)) → CarriesNoText bytes
no_text bytes byte body None begins is bad = absurd bad
no_text bytes byte body (Some r) begins is bad =
    let there = fields_there bytes byte body r begins is in
    record { no_fault = there.0; no_text = subst (λ (texts : List (List ℕ)). HasOneOf IsNoText texts) there.1 bad }

a_text : (bytes : List ℕ) (byte : ℕ) (body : List ℕ) (o : Option (Row (List ℕ))) → BeginsWithFrame bytes byte body → read_row kinds byte body ≡ o →
    IsSomeAnd o (λ r. HasOne (end_definitions r.ending)) → CarriesText bytes
a_text bytes byte body None begins is has = absurd has
a_text bytes byte body (Some r) begins is has =
    let there = fields_there bytes byte body r begins is in
    record { no_fault = there.0; text = subst (λ (texts : List (List ℕ)). HasOne texts) there.1 has }

-- no error if a message was read, and otherwise the error that was returned
abbrev pub IsFirst : {X : Type 0} → Result X DecodeFault → List ℕ → Type 0
IsFirst result bytes = MatchResult result (λ x. first_fault bytes ≡ None) (λ e. HasFault bytes e)

body_answered : {X : Type 0} (view : X → Message Definition) (result : Result X DecodeFault) (bytes : List ℕ) (byte : ℕ) (body : List ℕ) → BeginsWithFrame bytes byte body →
    ReadsBodyAs view result (read_row kinds byte body) → IsFirst result bytes
body_answered view (Ok x) bytes byte body begins reads = (fields_there bytes byte body (texts (view x)) begins reads.0).0
body_answered view (Err Short) bytes byte body begins reads = absurd reads
body_answered view (Err BadVersion) bytes byte body begins reads = absurd reads
body_answered view (Err BadKind) bytes byte body begins reads = absurd reads
body_answered view (Err BadField) bytes byte body begins reads = fields_missing bytes byte body begins reads
body_answered view (Err NotCanonical) bytes byte body begins reads = no_text bytes byte body (read_row kinds byte body) begins refl reads
body_answered view (Err TooLong) bytes byte body begins reads = absurd reads
body_answered view (Err Memory) bytes byte body begins reads = a_text bytes byte body (read_row kinds byte body) begins refl reads

frame_fault : (bytes : List ℕ) (e : FrameFault) → first_fault bytes ≡ Some (decode_fault e) → HasFault bytes (decode_fault e)
frame_fault bytes frames.Short is = is
frame_fault bytes frames.BadVersion is = is
frame_fault bytes frames.BadKind is = is
frame_fault bytes frames.TooLong is = is
frame_fault bytes frames.BadLength is = is

frame_answered : {X : Type 0} (view : X → Message Definition) (result : Result (X × ℕ) DecodeFault) (bytes : List ℕ) (r : Result FrameFound FrameFault) →
    FrameIsChecked (first_fault bytes) (texts_in bytes) r → IsValidated view result r → IsFirst result bytes
frame_answered view result bytes (Ok found) checked validated =
    body_answered (λ x. view x.0) result bytes found.1 found.2 (record { layout = checked.0; known = checked.1; fault = checked.2; text = checked.3 }) validated.0
frame_answered {X} view result bytes (Err e) checked validated =
    subst (λ (r : Result (X × ℕ) DecodeFault). IsFirst r bytes) (sym validated) (frame_fault bytes e checked)

-- the result is the first error
pub answered : {X : Type 0} (view : X → Message Definition) (result : Result (X × ℕ) DecodeFault) (bytes : List ℕ) → IsValidated view result (frame_front format bytes) → IsFirst result bytes
answered view result bytes validated = frame_answered view result bytes (frame_front format bytes) (frame_checked bytes) validated

-- allocation fails only for a text
pub memory_over_text : {X : Type 0} (view : X → Message Definition) (result : Result (X × ℕ) DecodeFault) (bytes : List ℕ) → IsValidated view result (frame_front format bytes) → IsErrOf result Memory → CarriesText bytes
memory_over_text {X} view result bytes validated memory = subst (λ (r : Result (X × ℕ) DecodeFault). IsFirst r bytes) memory (answered view result bytes validated)
