-- A record as in wf_model, and as a row with a definition or with its canonical text.
use Rattle.std.specs.Prelude.{ℕ, ◌≤◌, List, [], ◌∷◌, length, Option, Some, None, IsSome}
use Rattle.wf_frame.specs.Field.{SlotValue, RoundValue, BallotValue}
use Rattle.wf_frame.specs.Row.{Row, RowEnd, NoEnd, TextEnd, row_with, IsRowOf}
use Rattle.wf_model.specs.DurableState as model
use Rattle.wf_def.specs.Definition.{Definition}
use Rattle.wf_def.specs.Limits.{IsWithinLimits}
use Rattle.wf_canon.specs.Canon.{canon, most_canon_bytes}
use Rattle.wf_journal.specs.declared.record.Record.{Record}
use Rattle.wf_journal.specs.declared.record.Record.TheVariants as code

-- the model of a record
abbrev pub view : Record → model.Record Definition
view (code.Tried round) = model.Tried round
view (code.Promised s b) = model.Promised s b
view (code.Accepted s b d) = model.Accepted s b d
view (code.Published s d) = model.Published s d

-- a record as a row: the byte of its kind, its fields, and the definition at its end
abbrev pub row : {V : Type 0} → model.Record V → Row V
row (model.Tried round) = record { byte = 1; fields = RoundValue round ∷ []; ending = NoEnd }
row (model.Promised s b) = record { byte = 2; fields = SlotValue s ∷ BallotValue b ∷ []; ending = NoEnd }
row (model.Accepted s b d) = record { byte = 3; fields = SlotValue s ∷ BallotValue b ∷ []; ending = TextEnd d }
row (model.Published s d) = record { byte = 4; fields = SlotValue s ∷ []; ending = TextEnd d }

-- the row with the canonical text in place of the definition
abbrev pub texts : model.Record Definition → Row (List ℕ)
texts r = row_with canon (row r)

-- the definition of a record: that of a vote, or a published one
abbrev pub end_definition : {V : Type 0} → RowEnd V → Option V
end_definition (TextEnd d) = Some d
end_definition end = None

abbrev pub definition_of : {V : Type 0} → model.Record V → Option V
definition_of r = end_definition (row r).ending

-- the record has a definition
abbrev pub HasDefinition : {V : Type 0} → model.Record V → Type 0
HasDefinition r = IsSome (definition_of r)

-- a map whose canonical text is within the limit
pub record HasText (d : Definition) : Type 0 where
  pub within : IsWithinLimits d
  pub short : length (canon d) ≤ most_canon_bytes

-- A record's numbers are in their ranges, rounds and sequences from 1 on, and P holds of its
-- definition.
abbrev pub IsRecordOf : {V : Type 0} → (V → Type 0) → model.Record V → Type 0
IsRecordOf P r = IsRowOf P (row r)

-- a record that has an encoding
abbrev pub IsRecord : model.Record Definition → Type 0
IsRecord r = IsRecordOf HasText r
