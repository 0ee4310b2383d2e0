-- A message as in wf_model, and as a row with definitions or with their canonical texts.
use Rattle.std.specs.Prelude.{◌⊎◌, ℕ, ◌≤◌, List, [], ◌∷◌, length, map, Option, option_map}
use Rattle.wf_ballot.specs.Ballot.{Ballot}
use Rattle.wf_frame.specs.Field.{NodeValue, SlotValue, BallotValue}
use Rattle.wf_frame.specs.Row.{Row, NoEnd, TextEnd, VotesEnd, row_with, end_definitions, IsRowOf}
use Rattle.wf_model.specs.Message.{Vote}
use Rattle.wf_model.specs.Message as model
use Rattle.wf_def.specs.Definition.{Definition}
use Rattle.wf_def.specs.Limits.{IsWithinLimits}
use Rattle.wf_canon.specs.Canon.{canon, most_canon_bytes}
use Rattle.wf_codec.specs.declared.message.Message.{Message}
use Rattle.wf_codec.specs.declared.message.Message.TheVariants as code

-- the model of a vote
abbrev pub view_vote : Option (Ballot × Definition) → Option (Vote Definition)
view_vote v = option_map (λ vote. record { ballot = vote.0; definition = vote.1 }) v

abbrev pub view_votes : List (Option (Ballot × Definition)) → List (Option (Vote Definition))
view_votes votes = map view_vote votes

-- the model of a message
abbrev pub view : Message → model.Message Definition
view (code.Prepare s b) = model.Prepare s b
view (code.Promise i b report) = model.Promise i report.slot b (view_votes report.votes)
view (code.Accept s b d) = model.Accept s b d
view (code.Accepted i s b) = model.Accepted i s b
view (code.Nack i s b q) = model.Nack i s b q
view (code.Chosen s d) = model.Chosen s d
view (code.Ask s) = model.Ask s

-- a message as a row: the byte of its kind, its fields, and the definitions at its end
abbrev pub row : {V : Type 0} → model.Message V → Row V
row (model.Prepare s b) = record { byte = 1; fields = SlotValue s ∷ BallotValue b ∷ []; ending = NoEnd }
row (model.Promise i s b votes) = record { byte = 2; fields = NodeValue i ∷ []; ending = VotesEnd s b votes }
row (model.Accept s b d) = record { byte = 3; fields = SlotValue s ∷ BallotValue b ∷ []; ending = TextEnd d }
row (model.Accepted i s b) = record { byte = 4; fields = NodeValue i ∷ SlotValue s ∷ BallotValue b ∷ []; ending = NoEnd }
row (model.Nack i s b q) = record { byte = 5; fields = NodeValue i ∷ SlotValue s ∷ BallotValue b ∷ BallotValue q ∷ []; ending = NoEnd }
row (model.Chosen s d) = record { byte = 6; fields = SlotValue s ∷ []; ending = TextEnd d }
row (model.Ask s) = record { byte = 7; fields = SlotValue s ∷ []; ending = NoEnd }

-- the row with canonical texts for definitions
abbrev pub texts : model.Message Definition → Row (List ℕ)
texts m = row_with canon (row m)

-- the definitions of a message: those of a Promise's votes, that of an Accept, of a Chosen
abbrev pub definitions_of : {V : Type 0} → model.Message V → List V
definitions_of m = end_definitions (row m).ending

-- there is an element, and: P holds of one
abbrev pub HasOne : {A : Type 0} → List A → Type 0
HasOne [] = ⊥
HasOne (x ∷ xs) = Unit {0}

abbrev pub HasOneOf : {A : Type 0} → (A → Type 0) → List A → Type 0
HasOneOf P [] = ⊥
HasOneOf P (x ∷ xs) = P x ⊎ HasOneOf P xs

-- the message has a definition
abbrev pub HasDefinition : {V : Type 0} → model.Message V → Type 0
HasDefinition m = HasOne (definitions_of m)

-- a map whose canonical text is within the limit
pub record HasText (d : Definition) : Type 0 where
  pub within : IsWithinLimits d
  pub short : length (canon d) ≤ most_canon_bytes

-- A message's numbers are in their ranges, sequences from 1 on; a Promise has a vote or none for
-- each sequence of its window; and P holds of each definition.
abbrev pub IsMessageOf : {V : Type 0} → (V → Type 0) → model.Message V → Type 0
IsMessageOf P m = IsRowOf P (row m)

-- a message that has an encoding
abbrev pub IsMessage : model.Message Definition → Type 0
IsMessage m = IsMessageOf HasText m
