-- What a frame says, apart from its version, as a row: the byte of its kind, a value for each field
-- of its body, and the ending. A message or a record is said once, as its row; its body, its layout
-- and its definitions follow from that.
use Rattle.std.specs.Prelude.{◌≡◌, ℕ, ◌==◌, List, [], ◌∷◌, ◌++◌, length, map, Option, Some, None, option_and_then, if◌then◌else◌}
use Rattle.wf_ballot.specs.Sequence.{IsSlot}
use Rattle.wf_ballot.specs.Ballot.{Ballot, IsBallot}
use Rattle.wf_model.specs.Message.{Vote}
use Rattle.wf_frame.specs.Field.{Field, FieldValue, IsValue, value_bytes, field_of, value_of, value_with}
use Rattle.wf_frame.specs.Report.{AreVotesOf, report_bytes, votes_in_report, votes_definitions, votes_with}
use Rattle.wf_frame.specs.BodyEnd.{BodyEnding, Nothing, Text, Votes, End}
use Rattle.wf_frame.specs.Layout.{Layout, BodyParts, Body, end_of, read_body}

-- what a body ends with, with definitions of any type: nothing, a definition, or the votes of a
-- promise at a slot and a ballot
pub data RowEnd (V : Type 0) : Type 0 where
  NoEnd : RowEnd V
  TextEnd : V → RowEnd V
  VotesEnd : (slot : ℕ) → Ballot → List (Option (Vote V)) → RowEnd V

pub record Row (V : Type 0) : Type 0 where
  pub byte : ℕ
  pub fields : List FieldValue
  pub ending : RowEnd V

-- the row with f applied to its definitions
abbrev pub end_with : {V W : Type 0} → (V → W) → RowEnd V → RowEnd W
end_with f NoEnd = NoEnd
end_with f (TextEnd d) = TextEnd (f d)
end_with f (VotesEnd s b votes) = VotesEnd s b (votes_with f votes)

abbrev pub row_with : {V W : Type 0} → (V → W) → Row V → Row W
row_with f row = record { byte = row.byte; fields = row.fields; ending = end_with f row.ending }

-- the definitions of a row, or their texts
abbrev pub end_definitions : {V : Type 0} → RowEnd V → List V
end_definitions NoEnd = []
end_definitions (TextEnd d) = d ∷ []
end_definitions (VotesEnd s b votes) = votes_definitions votes

-- Each field is in its range; votes are as many as the slot has sequences; and P holds of each
-- definition.
abbrev pub IsEndOf : {V : Type 0} → (V → Type 0) → RowEnd V → Type 0
IsEndOf P NoEnd = Unit {0}
IsEndOf P (TextEnd d) = P d
IsEndOf P (VotesEnd s b votes) = IsSlot s × IsBallot b × (length votes ≡ votes_in_report s) × AreVotesOf P votes

abbrev pub AreInRange : {V : Type 0} → (V → Type 0) → List FieldValue → RowEnd V → Type 0
AreInRange P [] end = IsEndOf P end
AreInRange P (v ∷ values) end = IsValue (field_of v) (value_of v) × AreInRange P values end

abbrev pub IsRowOf : {V : Type 0} → (V → Type 0) → Row V → Type 0
IsRowOf P row = AreInRange P row.fields row.ending

-- ---- its body

abbrev pub fields_bytes : List FieldValue → List ℕ
fields_bytes [] = []
fields_bytes (v ∷ values) = value_bytes (field_of v) (value_of v) ++ fields_bytes values

abbrev pub row_end_bytes : RowEnd (List ℕ) → List ℕ
row_end_bytes NoEnd = []
row_end_bytes (TextEnd text) = text
row_end_bytes (VotesEnd s b votes) = report_bytes (record { slot = s; ballot = b; votes = votes })

-- the bytes of its body
unfoldable pub row_bytes : Row (List ℕ) → List ℕ
row_bytes row = fields_bytes row.fields ++ row_end_bytes row.ending

-- the layout of its body, where a text has at most so many bytes
abbrev pub row_ending : {V : Type 0} → ℕ → RowEnd V → BodyEnding
row_ending most NoEnd = Nothing
row_ending most (TextEnd d) = Text most
row_ending most (VotesEnd s b votes) = Votes most

abbrev pub row_layout : {V : Type 0} → ℕ → Row V → Layout
row_layout most row = record { fields = map field_of row.fields; ending = row_ending most row.ending }

-- ---- how it is read

abbrev pub values_in : (fields : List Field) (ending : BodyEnding) → BodyParts fields ending → List FieldValue
values_in [] ending end = []
values_in (field ∷ fields) ending parts = value_with field parts.0 ∷ values_in fields ending parts.1

abbrev pub end_from : (ending : BodyEnding) → End ending → RowEnd (List ℕ)
end_from Nothing end = NoEnd
end_from (Text most) text = TextEnd text
end_from (Votes most) report = VotesEnd report.slot report.ballot report.votes

-- the row of the kind with this byte whose body says so
abbrev pub row_from : ℕ → (layout : Layout) → Body layout → Row (List ℕ)
row_from byte layout body =
    record { byte = byte; fields = values_in layout.fields layout.ending body; ending = end_from layout.ending (end_of layout.fields layout.ending body) }

-- ---- kinds as the rows of a table: the byte of each, and the layout of its body

-- the layout of the kind with this byte, None if there is no such kind
unfoldable pub layout_of : List (ℕ × Layout) → ℕ → Option Layout
layout_of [] byte = None
layout_of (kind ∷ kinds) byte = if byte == kind.0 then Some kind.1 else layout_of kinds byte

-- the row of the kind with this byte that has this body, None if there is none, if the kind can
-- have the body's length
unfoldable pub read_row : List (ℕ × Layout) → ℕ → List ℕ → Option (Row (List ℕ))
read_row kinds byte bytes = option_and_then (λ layout. read_body layout bytes (row_from byte layout)) (layout_of kinds byte)
