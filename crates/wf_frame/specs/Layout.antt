-- The layout of a body: fields of fixed length, one after the other, and an ending. A kind of
-- message or record has one layout.
use Rattle.std.specs.Prelude.{ℕ, ◌+◌, ◌&&◌, nat_le, Bool, List, [], ◌∷◌, ◌++◌, drop, Option, is_some, option_map, option_and_then}
use Rattle.wf_frame.specs.Field.{Field, Value, IsValue, value_bytes, width, front_value}
use Rattle.wf_frame.specs.BodyEnd.{BodyEnding, End, IsEnd, end_bytes, least_end, most_end, end_texts, front_end, has_end, texts_in_end}
use Rattle.wf_frame.specs.declared.lengths.Lengths.{Lengths}

pub record Layout : Type 0 where
  pub fields : List Field
  pub ending : BodyEnding

-- ---- what a body says

-- a value for each field, and the ending
abbrev pub BodyParts : List Field → BodyEnding → Type 0
BodyParts [] ending = End ending
BodyParts (field ∷ fields) ending = Value field × BodyParts fields ending

abbrev pub Body : Layout → Type 0
Body layout = BodyParts layout.fields layout.ending

-- each part is in its range
abbrev pub AreParts : (fields : List Field) (ending : BodyEnding) → BodyParts fields ending → Type 0
AreParts [] ending end = IsEnd ending end
AreParts (field ∷ fields) ending parts = IsValue field parts.0 × AreParts fields ending parts.1

abbrev pub IsBody : (layout : Layout) → Body layout → Type 0
IsBody layout body = AreParts layout.fields layout.ending body

abbrev pub parts_bytes : (fields : List Field) (ending : BodyEnding) → BodyParts fields ending → List ℕ
parts_bytes [] ending end = end_bytes ending end
parts_bytes (field ∷ fields) ending parts = value_bytes field parts.0 ++ parts_bytes fields ending parts.1

-- the bytes of a body
abbrev pub body_bytes : (layout : Layout) → Body layout → List ℕ
body_bytes layout body = parts_bytes layout.fields layout.ending body

abbrev pub end_of : (fields : List Field) (ending : BodyEnding) → BodyParts fields ending → End ending
end_of [] ending end = end
end_of (field ∷ fields) ending parts = end_of fields ending parts.1

-- the texts that a body contains
abbrev pub body_texts : (layout : Layout) → Body layout → List (List ℕ)
body_texts layout body = end_texts layout.ending (end_of layout.fields layout.ending body)

-- ---- lengths

abbrev pub widths : List Field → ℕ
widths [] = 0
widths (field ∷ fields) = width field + widths fields

-- an ending can have that many bytes, counted with those of the fields before it
abbrev pub ends_at : BodyEnding → (fields n : ℕ) → Bool
ends_at ending fields n = nat_le (fields + least_end ending) n && nat_le n (fields + most_end ending)

-- a body can have that many bytes
abbrev pub fits : Layout → ℕ → Bool
fits layout n = ends_at layout.ending (widths layout.fields) n

-- the numbers of bytes that a body can have
abbrev pub lengths_of : Layout → Lengths
lengths_of layout = record { least = widths layout.fields + least_end layout.ending; most = widths layout.fields + most_end layout.ending }

-- ---- how a body is read: each field after the one before it, then the ending

-- what `payload` makes of the parts that the bytes begin with, None if a part isn't there
abbrev pub read_parts : {B : Type 0} (fields : List Field) (ending : BodyEnding) → List ℕ → (BodyParts fields ending → B) → Option B
read_parts [] ending bytes payload = option_map payload (front_end ending bytes)
read_parts (field ∷ fields) ending bytes payload =
    option_and_then (λ value. read_parts fields ending value.1 (λ parts. payload (value.0, parts))) (front_value field bytes)

-- what `payload` makes of a body, if a body can have the length of these bytes
abbrev pub read_body : {B : Type 0} (layout : Layout) → List ℕ → (Body layout → B) → Option B
read_body layout bytes payload = read_parts layout.fields layout.ending bytes payload

-- ---- by byte offset

-- from this offset on, each field is in its range, and the ending is one but for its texts
abbrev pub has_parts : List Field → BodyEnding → ℕ → List ℕ → Bool
has_parts [] ending offset body = has_end ending (drop offset body)
has_parts (field ∷ fields) ending offset body = is_some (front_value field (drop offset body)) && has_parts fields ending (offset + width field) body

abbrev pub has_fields : Layout → List ℕ → Bool
has_fields layout body = has_parts layout.fields layout.ending 0 body

-- the texts after the fields
abbrev pub texts_in : Layout → List ℕ → List (List ℕ)
texts_in layout body = texts_in_end layout.ending (drop (widths layout.fields) body)
