-- The four kinds of record: the byte of each, and the layout of its body.
use Rattle.std.specs.Prelude.{ℕ, ◌+◌, List, [], ◌∷◌}
use Rattle.wf_canon.specs.Canon.{most_canon_bytes}
use Rattle.wf_frame.specs.Field.{SlotField, RoundField, BallotField}
use Rattle.wf_frame.specs.BodyEnd.{Nothing, Text}
use Rattle.wf_frame.specs.Layout.{Layout}

-- where a text has at most so many bytes, in the order in which wf_model lists records
abbrev pub kinds : (most : ℕ) → List (ℕ × Layout)
kinds most =
    (1, record { fields = RoundField ∷ []; ending = Nothing })
    ∷ (2, record { fields = SlotField ∷ BallotField ∷ []; ending = Nothing })
    ∷ (3, record { fields = SlotField ∷ BallotField ∷ []; ending = Text most })
    ∷ (4, record { fields = SlotField ∷ []; ending = Text most })
    ∷ []

-- the longest body, in bytes: that of a vote for the longest text
abbrev pub most_body_bytes : ℕ
most_body_bytes = 7 + most_canon_bytes
