-- Rows: a row's body has a length that its layout allows, and it is read as the row; a row that is
-- read has those bytes; and the checks by byte offset agree with it.
use Rattle.std.proofs.Common.{◌≡◌, ℕ, ◌+◌, ◌<◌, ◌≤◌, ◌^◌, Bool, true, false, cond, eqb, List, [], ◌∷◌, ◌++◌, length, map, Option, Some, None, refl, sym, ap, subst, ◌∙◌, append_assoc, length-append, arith}
use Rattle.std.specs.Prelude.{option_map, option_and_then}
use Rattle.wf_ballot.specs.Front.{AreBytes}
use Rattle.wf_frame.specs.Field.{Field, NodeField, SlotField, RoundField, BallotField, FieldValue, NodeValue, SlotValue, RoundValue, BallotValue, Value, value_bytes, field_of, value_of, value_with}
use Rattle.wf_frame.specs.Report.{IsBoundedText}
use Rattle.wf_frame.specs.BodyEnd.{BodyEnding, Nothing, Text, Votes, End, end_texts, most_end}
use Rattle.wf_frame.specs.Layout.{Layout, BodyParts, Body, AreParts, parts_bytes, body_bytes, end_of, widths, fits, read_body, has_fields, texts_in}
use Rattle.wf_frame.specs.Row.{Row, RowEnd, NoEnd, TextEnd, VotesEnd, end_definitions, AreInRange, IsRowOf, fields_bytes, row_end_bytes, row_bytes, row_ending, row_layout, values_in, end_from, row_from, layout_of, read_row}
use Rattle.wf_frame.specs.LayoutTheorems.{value_length, fits_most, body_fits, body_again, body_stands, body_checked}

-- ---- what the body of a row says

abbrev end_parts : (most : ℕ) (end : RowEnd (List ℕ)) → End (row_ending most end)
end_parts most NoEnd = tt
end_parts most (TextEnd text) = text
end_parts most (VotesEnd s b votes) = record { slot = s; ballot = b; votes = votes }

abbrev row_parts : (most : ℕ) (values : List FieldValue) (end : RowEnd (List ℕ)) → BodyParts (map field_of values) (row_ending most end)
row_parts most [] end = end_parts most end
row_parts most (v ∷ values) end = (value_of v, row_parts most values end)

abbrev body_of_row : (most : ℕ) (r : Row (List ℕ)) → Body (row_layout most r)
body_of_row most r = row_parts most r.fields r.ending

-- its fields are in their ranges
row_parts_fit : (most : ℕ) (values : List FieldValue) (end : RowEnd (List ℕ)) → most < 2 ^ 32 → AreInRange (IsBoundedText most) values end → AreParts (map field_of values) (row_ending most end) (row_parts most values end)
row_parts_fit most [] NoEnd short p = tt
row_parts_fit most [] (TextEnd text) short p = p
row_parts_fit most [] (VotesEnd s b votes) short p = record { slot = p.0; ballot = p.1; count = p.2; votes = p.3; four_bytes = short }
row_parts_fit most (v ∷ values) end short p = (p.0, row_parts_fit most values end short p.1)

-- ---- the row that is read

same_value : (v : FieldValue) → value_with (field_of v) (value_of v) ≡ v
same_value (NodeValue node) = refl
same_value (SlotValue slot) = refl
same_value (RoundValue round) = refl
same_value (BallotValue ballot) = refl

same_values : (most : ℕ) (values : List FieldValue) (end : RowEnd (List ℕ)) → values_in (map field_of values) (row_ending most end) (row_parts most values end) ≡ values
same_values most [] end = refl
same_values most (v ∷ values) end =
    let rest : List FieldValue = values_in (map field_of values) (row_ending most end) (row_parts most values end) in
    ap (λ (first : FieldValue). first ∷ rest) (same_value v) ∙ ap (λ (others : List FieldValue). v ∷ others) (same_values most values end)

same_end : (most : ℕ) (values : List FieldValue) (end : RowEnd (List ℕ)) → end_from (row_ending most end) (end_of (map field_of values) (row_ending most end) (row_parts most values end)) ≡ end
same_end most [] NoEnd = refl
same_end most [] (TextEnd text) = refl
same_end most [] (VotesEnd s b votes) = refl
same_end most (v ∷ values) end = same_end most values end

-- what a row says is the row
row_again : (most : ℕ) (r : Row (List ℕ)) → row_from r.byte (row_layout most r) (body_of_row most r) ≡ r
row_again most r =
    let with_fields : List FieldValue → Row (List ℕ) =
    λ values. record { byte = r.byte; fields = values; ending = end_from (row_ending most r.ending) (end_of (map field_of r.fields) (row_ending most r.ending) (body_of_row most r)) } in
    let with_end : RowEnd (List ℕ) → Row (List ℕ) = λ end. record { byte = r.byte; fields = r.fields; ending = end } in
    ap with_fields (same_values most r.fields r.ending) ∙ ap with_end (same_end most r.fields r.ending)

-- ---- its bytes

same_bytes : (field : Field) (value : Value field) → value_bytes (field_of (value_with field value)) (value_of (value_with field value)) ≡ value_bytes field value
same_bytes NodeField node = refl
same_bytes SlotField slot = refl
same_bytes RoundField round = refl
same_bytes BallotField ballot = refl

from_bytes : (fields : List Field) (ending : BodyEnding) (parts : BodyParts fields ending) →
    fields_bytes (values_in fields ending parts) ++ row_end_bytes (end_from ending (end_of fields ending parts)) ≡ parts_bytes fields ending parts
from_bytes [] Nothing end = refl
from_bytes [] (Text most) text = refl
from_bytes [] (Votes most) report = refl
from_bytes (field ∷ fields) ending parts =
    let value : List ℕ = value_bytes (field_of (value_with field parts.0)) (value_of (value_with field parts.0)) in
    append_assoc value (fields_bytes (values_in fields ending parts.1)) (row_end_bytes (end_from ending (end_of fields ending parts.1)))
    ∙ ap (λ (bytes : List ℕ). value ++ bytes) (from_bytes fields ending parts.1)
    ∙ ap (λ (bytes : List ℕ). bytes ++ parts_bytes fields ending parts.1) (same_bytes field parts.0)

-- the bytes of a row are those of the body that it is read from
read_bytes : (byte : ℕ) (layout : Layout) (body : Body layout) → row_bytes (row_from byte layout body) ≡ body_bytes layout body
unfolding row_bytes
read_bytes byte layout body = from_bytes layout.fields layout.ending body

-- a row's body is its layout's bytes of what it says
bytes_of_row_body : (most : ℕ) (r : Row (List ℕ)) → row_bytes r ≡ body_bytes (row_layout most r) (body_of_row most r)
bytes_of_row_body most r = ap row_bytes (sym (row_again most r)) ∙ read_bytes r.byte (row_layout most r) (body_of_row most r)

-- ---- lengths

fields_length : (values : List FieldValue) → length (fields_bytes values) ≡ widths (map field_of values)
fields_length [] = refl
fields_length (v ∷ values) = omega (arith, length-append (value_bytes (field_of v) (value_of v)) (fields_bytes values), value_length (field_of v) (value_of v), fields_length values)

-- the length of a row's body
pub row_length : (r : Row (List ℕ)) → length (row_bytes r) ≡ widths (map field_of r.fields) + length (row_end_bytes r.ending)
unfolding row_bytes
row_length r = omega (arith, length-append (fields_bytes r.fields) (row_end_bytes r.ending), fields_length r.fields)

-- a row's body has a length that its layout allows
pub row_fits : (most : ℕ) (r : Row (List ℕ)) → most < 2 ^ 32 → IsRowOf (IsBoundedText most) r → fits (row_layout most r) (length (row_bytes r)) ≡ true
row_fits most r short is =
    ap (λ (bytes : List ℕ). fits (row_layout most r) (length bytes)) (bytes_of_row_body most r) ∙ body_fits (row_layout most r) (body_of_row most r) (row_parts_fit most r.fields r.ending short is)

-- no kind has a longer body
abbrev pub AreWithin : ℕ → List (ℕ × Layout) → Type 0
AreWithin most [] = Unit {0}
AreWithin most (kind ∷ kinds) = (widths kind.1.fields + most_end kind.1.ending ≤ most) × AreWithin most kinds

found_within : (most n : ℕ) (b : Bool) (first layout : Layout) (others : Option Layout) → widths first.fields + most_end first.ending ≤ most → (others ≡ Some layout → n ≤ most) →
    cond b (Some first) others ≡ Some layout → fits layout n ≡ true → n ≤ most
found_within most n true first layout others within later e has =
    let same : first ≡ layout = cc in omega (arith, within, fits_most first n (subst (λ (l : Layout). fits l n ≡ true) (sym same) has))
found_within most n false first layout others within later e has = later e

pub kinds_within : (most : ℕ) (kinds : List (ℕ × Layout)) (byte : ℕ) (layout : Layout) (n : ℕ) → AreWithin most kinds → layout_of kinds byte ≡ Some layout → fits layout n ≡ true → n ≤ most
unfolding layout_of
kinds_within most [] byte layout n within e has = absurd cc
kinds_within most (kind ∷ kinds) byte layout n within e has =
    found_within most n (eqb byte kind.0) kind.1 layout (layout_of kinds byte) within.0 (λ later. kinds_within most kinds byte layout n within.1 later has) e has

-- ---- reading

-- a row's body is read as the row
pub row_read : (kinds : List (ℕ × Layout)) (most : ℕ) (r : Row (List ℕ)) → most < 2 ^ 32 → layout_of kinds r.byte ≡ Some (row_layout most r) → IsRowOf (IsBoundedText most) r → read_row kinds r.byte (row_bytes r) ≡ Some r
unfolding read_row
row_read kinds most r short known is =
    ap (option_and_then (λ layout. read_body layout (row_bytes r) (row_from r.byte layout))) known
    ∙ ap (λ (bytes : List ℕ). read_body (row_layout most r) bytes (row_from r.byte (row_layout most r))) (bytes_of_row_body most r)
    ∙ body_again (row_layout most r) (body_of_row most r) (row_from r.byte (row_layout most r)) (row_parts_fit most r.fields r.ending short is) ∙ ap Some (row_again most r)

-- the row that is read has this byte and this body
pub row_stands : (kinds : List (ℕ × Layout)) (byte : ℕ) (layout : Layout) (bytes : List ℕ) (r : Row (List ℕ)) → layout_of kinds byte ≡ Some layout → AreBytes bytes → fits layout (length bytes) ≡ true →
    read_row kinds byte bytes ≡ Some r → (r.byte ≡ byte) × (bytes ≡ row_bytes r)
unfolding read_row
row_stands kinds byte layout bytes r known fit has e =
    let read : read_body layout bytes (row_from byte layout) ≡ Some r = sym (ap (option_and_then (λ l. read_body l bytes (row_from byte l))) known) ∙ e in
    let stands = body_stands layout bytes (row_from byte layout) r fit has read in (
      sym (ap (λ (row : Row (List ℕ)). row.byte) stands.makes),
      stands.spelled ∙ sym (read_bytes byte layout stands.parts) ∙ ap row_bytes stands.makes,
    )

same_texts : (fields : List Field) (ending : BodyEnding) (parts : BodyParts fields ending) → end_definitions (end_from ending (end_of fields ending parts)) ≡ end_texts ending (end_of fields ending parts)
same_texts [] Nothing end = refl
same_texts [] (Text most) text = refl
same_texts [] (Votes most) report = refl
same_texts (field ∷ fields) ending parts = same_texts fields ending parts.1

-- A row is read iff each field is in its range, by byte offset, and its texts are those that follow
-- the fields.
pub row_checked : (kinds : List (ℕ × Layout)) (byte : ℕ) (layout : Layout) (bytes : List ℕ) → layout_of kinds byte ≡ Some layout →
    option_map (λ (r : Row (List ℕ)). end_definitions r.ending) (read_row kinds byte bytes) ≡ cond (has_fields layout bytes) (Some (texts_in layout bytes)) None
unfolding read_row
row_checked kinds byte layout bytes known =
    ap (λ (o : Option Layout). option_map (λ (r : Row (List ℕ)). end_definitions r.ending) (option_and_then (λ l. read_body l bytes (row_from byte l)) o)) known
    ∙ body_checked layout bytes (row_from byte layout) (λ r. end_definitions r.ending) (λ body. same_texts layout.fields layout.ending body)
