-- Records with definitions, and the same records with canonical texts.
use Rattle.std.proofs.Common.{◌≡◌, ℕ, ◌≤◌, true, List, [], ◌∷◌, length, Some, refl, ap, subst, ◌∙◌, arith}
use Rattle.std.specs.Prelude.{IfSome, IsSomeAnd, is_some, option_and_then}
use Rattle.wf_def.specs.Definition.{Definition}
use Rattle.wf_canon.specs.Canon.{canon, line, most_canon_bytes}
use Rattle.wf_canon.specs.TextMeaning.{OneTextOneMap}
use Rattle.wf_frame.specs.Field.{FieldValue}
use Rattle.wf_frame.specs.Report.{IsBoundedText}
use Rattle.wf_frame.specs.Layout.{fits}
use Rattle.wf_frame.specs.LayoutTheorems.{fits_most}
use Rattle.wf_frame.specs.Row.{Row, RowEnd, NoEnd, TextEnd, VotesEnd, end_with, IsEndOf, AreInRange, IsRowOf, row_bytes, row_layout, layout_of, read_row}
use Rattle.wf_frame.specs.RowTheorems.{row_fits, row_read, row_length}
use Rattle.wf_frame.specs.Frame.{HasBody}
use Rattle.wf_model.specs.DurableState.{Record, Tried, Promised, Accepted, Published}
use Rattle.wf_journal.specs.declared.version.Version.{Version}
use Rattle.wf_journal.specs.Version.{version_byte, most_text}
use Rattle.wf_journal.specs.KindTable.{kinds}
use Rattle.wf_journal.specs.Record.{row, texts, end_definition, HasText, IsRecord}
use Rattle.wf_journal.specs.Encoding.{format, HasTextWithin}
use Rattle.wf_journal.specs.EncodingTheorems.{text_is_short}
use Rattle.wf_journal.specs.FormatTheorems.{version_again, text_within}
use Rattle.wf_journal.specs.Stages.{IsNoRecordText}

-- a canonical text begins with MAP
not_empty : (d : Definition) → 1 ≤ length (canon d)
unfolding canon line
not_empty d = omega arith

-- no record ends with votes
abbrev HasNoVotes : RowEnd Definition → Type 0
HasNoVotes (VotesEnd s b votes) = ⊥
HasNoVotes end = Unit {0}

no_votes : (r : Record Definition) → HasNoVotes (row r).ending
no_votes (Tried round) = tt
no_votes (Promised s b) = tt
no_votes (Accepted s b d) = tt
no_votes (Published s d) = tt

end_is_text : (most : ℕ) (end : RowEnd Definition) → IsEndOf HasText end → IfSome (end_definition end) (λ d. length (canon d) ≤ most) → HasNoVotes end → IsEndOf (IsBoundedText most) (end_with canon end)
end_is_text most NoEnd p short none = tt
end_is_text most (TextEnd d) p short none = record { least = not_empty d; within = short }
end_is_text most (VotesEnd s b votes) p short none = absurd none

fields_fit : (most : ℕ) (values : List FieldValue) (end : RowEnd Definition) → AreInRange HasText values end → IfSome (end_definition end) (λ d. length (canon d) ≤ most) → HasNoVotes end →
    AreInRange (IsBoundedText most) values (end_with canon end)
fields_fit most [] end p short none = end_is_text most end p short none
fields_fit most (v ∷ values) end p short none = (p.0, fields_fit most values end p.1 short none)

-- a record's text is a text, in each version that allows it
texts_fit : (most : ℕ) (r : Record Definition) → IsRecord r → HasTextWithin most r → IsRowOf (IsBoundedText most) (texts r)
texts_fit most r is short = fields_fit most (row r).fields (row r).ending is short (no_votes r)

-- a record's fields are those of its kind
pub has_kind : (most : ℕ) (r : Record Definition) → layout_of (kinds most) (texts r).byte ≡ Some (row_layout most (texts r))
unfolding layout_of
has_kind most (Tried round) = refl
has_kind most (Promised s b) = refl
has_kind most (Accepted s b d) = refl
has_kind most (Published s d) = refl

-- a record's row is read from its body
pub row_of_record : (r : Record Definition) → IsRecord r → read_row (kinds most_canon_bytes) (texts r).byte (row_bytes (texts r)) ≡ Some (texts r)
row_of_record r is = row_read (kinds most_canon_bytes) most_canon_bytes (texts r) (omega arith) (has_kind most_canon_bytes r) (texts_fit most_canon_bytes r is (text_is_short r is))

pub body_of_record : (version : Version) (r : Record Definition) → IsRecord r → HasTextWithin (most_text version) r → HasBody format (version_byte version) (texts r).byte (row_bytes (texts r))
body_of_record version r is short = record {
  is_read = ap is_some (version_again version);
  layout = row_layout (most_text version) (texts r);
  has_kind = ap (option_and_then (λ (v : Version). layout_of (kinds (most_text v)) (texts r).byte)) (version_again version) ∙ has_kind (most_text version) r;
  has_length = row_fits (most_text version) (texts r) (omega (arith, text_within version)) (texts_fit (most_text version) r is short);
}

text_in_end : (most byte : ℕ) (values : List FieldValue) (end : RowEnd Definition) (row' : Row (List ℕ)) → row' ≡ record { byte = byte; fields = values; ending = end_with canon end } →
    fits (row_layout most row') (length (row_bytes row')) ≡ true → IfSome (end_definition end) (λ d. length (canon d) ≤ most)
text_in_end most byte values NoEnd row' is has = tt
text_in_end most byte values (TextEnd d) row' is has =
    let text : Row (List ℕ) = record { byte = byte; fields = values; ending = TextEnd (canon d) } in
    let fit : fits (row_layout most text) (length (row_bytes text)) ≡ true = subst (λ (r : Row (List ℕ)). fits (row_layout most r) (length (row_bytes r)) ≡ true) is has in
    omega (arith, row_length text, fits_most (row_layout most text) (length (row_bytes text)) fit)
text_in_end most byte values (VotesEnd s b votes) row' is has = tt

-- a body whose length its kind can have has no longer text
pub text_is_within : (most : ℕ) (r : Record Definition) → fits (row_layout most (texts r)) (length (row_bytes (texts r))) ≡ true → HasTextWithin most r
text_is_within most r has = text_in_end most (row r).byte (row r).fields (row r).ending (texts r) refl has

rows_apart : OneTextOneMap → (q r : Record Definition) → IsRecord q → IsRecord r → (texts q).byte ≡ (texts r).byte → (texts q).fields ≡ (texts r).fields → (texts q).ending ≡ (texts r).ending → q ≡ r
rows_apart one_map (Tried round) (Tried other) p q kind fields end = cc
rows_apart one_map (Tried round) r p q kind fields end = absurd (omega (arith, kind))
rows_apart one_map (Promised s b) (Promised t c) p q kind fields end = cc
rows_apart one_map (Promised s b) r p q kind fields end = absurd (omega (arith, kind))
rows_apart one_map (Accepted s b d) (Accepted t c f) p q kind fields end = let same : d ≡ f = one_map d f p.1.1.within q.1.1.within cc in cc
rows_apart one_map (Accepted s b d) r p q kind fields end = absurd (omega (arith, kind))
rows_apart one_map (Published s d) (Published t f) p q kind fields end = let same : d ≡ f = one_map d f p.1.within q.1.within cc in cc
rows_apart one_map (Published s d) r p q kind fields end = absurd (omega (arith, kind))

-- records with equal texts are equal
pub texts_apart : OneTextOneMap → (q r : Record Definition) → IsRecord q → IsRecord r → texts q ≡ texts r → q ≡ r
texts_apart one_map q r is_q is_r e =
    rows_apart one_map q r is_q is_r (ap (λ (x : Row (List ℕ)). x.byte) e) (ap (λ (x : Row (List ℕ)). x.fields) e) (ap (λ (x : Row (List ℕ)). x.ending) e)

no_bad_end : (values : List FieldValue) (end : RowEnd Definition) → AreInRange HasText values end → IsSomeAnd (end_definition (end_with canon end)) IsNoRecordText → ⊥
no_bad_end (v ∷ values) end p bad = no_bad_end values end p.1 bad
no_bad_end [] NoEnd p bad = bad
no_bad_end [] (TextEnd d) p bad = bad d p refl
no_bad_end [] (VotesEnd s b votes) p bad = bad

-- a record's text is canonical
pub not_bad : (r : Record Definition) → IsRecord r → IsSomeAnd (end_definition (texts r).ending) IsNoRecordText → ⊥
not_bad r is bad = no_bad_end (row r).fields (row r).ending is bad
