-- What a body ends with, after its fields of fixed length: nothing, a text, or a report.
use Rattle.std.specs.Prelude.{ℕ, Bool, true, List, [], ◌∷◌, Option, Some, is_some}
use Rattle.wf_frame.specs.Report.{Report, IsBoundedText, IsVoteReport, report_bytes, most_report, report_of, votes_definitions, texts_of_read}

-- `most` is the most bytes of a text. A text at the end fills the rest of the body.
pub data BodyEnding : Type 0 where
  Nothing : BodyEnding
  Text : (most : ℕ) → BodyEnding
  Votes : (most : ℕ) → BodyEnding

-- what such an ending says, with texts for definitions
abbrev pub End : BodyEnding → Type 0
End Nothing = Unit {0}
End (Text most) = List ℕ
End (Votes most) = Report

abbrev pub IsEnd : (ending : BodyEnding) → End ending → Type 0
IsEnd Nothing end = Unit {0}
IsEnd (Text most) text = IsBoundedText most text
IsEnd (Votes most) report = IsVoteReport most report

abbrev pub end_bytes : (ending : BodyEnding) → End ending → List ℕ
end_bytes Nothing end = []
end_bytes (Text most) text = text
end_bytes (Votes most) report = report_bytes report

-- the fewest bytes of the ending: a text isn't empty, and a report has a slot, a ballot and a mark
abbrev pub least_end : BodyEnding → ℕ
least_end Nothing = 0
least_end (Text most) = 1
least_end (Votes most) = 8

-- the most bytes of the ending
abbrev pub most_end : BodyEnding → ℕ
most_end Nothing = 0
most_end (Text most) = most
most_end (Votes most) = most_report most

-- the texts that are said
abbrev pub end_texts : (ending : BodyEnding) → End ending → List (List ℕ)
end_texts Nothing end = []
end_texts (Text most) text = text ∷ []
end_texts (Votes most) report = votes_definitions report.votes

-- ---- how it is read

-- what the rest of the body says, if the kind can have the body's length
abbrev pub front_end : (ending : BodyEnding) → List ℕ → Option (End ending)
front_end Nothing bytes = Some tt
front_end (Text most) bytes = Some bytes
front_end (Votes most) bytes = report_of most bytes

-- ---- by byte offset

-- the rest of the body is such an ending, but for its texts
abbrev pub has_end : BodyEnding → List ℕ → Bool
has_end Nothing bytes = true
has_end (Text most) bytes = true
has_end (Votes most) bytes = is_some (report_of most bytes)

-- the texts in the rest of the body
abbrev pub texts_in_end : BodyEnding → List ℕ → List (List ℕ)
texts_in_end Nothing bytes = []
texts_in_end (Text most) bytes = bytes ∷ []
texts_in_end (Votes most) bytes = texts_of_read (report_of most bytes)
