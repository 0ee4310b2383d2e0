-- The seven kinds of message: the byte of each, and the layout of its body.
use Rattle.std.specs.Prelude.{ℕ, ◌+◌, List, [], ◌∷◌}
use Rattle.wf_frame.specs.Field.{NodeField, SlotField, BallotField}
use Rattle.wf_frame.specs.BodyEnd.{Nothing, Text, Votes}
use Rattle.wf_frame.specs.Layout.{Layout}
use Rattle.wf_frame.specs.Report.{most_report}
use Rattle.wf_canon.specs.Canon.{most_canon_bytes}

-- from the request to promise to the request for what is chosen, in the order in which wf_model
-- lists messages
abbrev pub kinds : List (ℕ × Layout)
kinds =
    (1, record { fields = SlotField ∷ BallotField ∷ []; ending = Nothing })
    ∷ (2, record { fields = NodeField ∷ []; ending = Votes most_canon_bytes })
    ∷ (3, record { fields = SlotField ∷ BallotField ∷ []; ending = Text most_canon_bytes })
    ∷ (4, record { fields = NodeField ∷ SlotField ∷ BallotField ∷ []; ending = Nothing })
    ∷ (5, record { fields = NodeField ∷ SlotField ∷ BallotField ∷ BallotField ∷ []; ending = Nothing })
    ∷ (6, record { fields = SlotField ∷ []; ending = Text most_canon_bytes })
    ∷ (7, record { fields = SlotField ∷ []; ending = Nothing })
    ∷ []

-- the longest body, in bytes: that of a promise with four votes for the longest texts
abbrev pub most_body_bytes : ℕ
most_body_bytes = 1 + most_report most_canon_bytes
