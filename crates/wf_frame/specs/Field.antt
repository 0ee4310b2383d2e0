-- The fields of fixed length that a body is made of: a node, a slot (a sequence from 1 on), a round
-- and a ballot.
use Rattle.std.specs.Prelude.{ℕ, List, Option}
use Rattle.wf_ballot.specs.Node.{IsNode, node_bytes}
use Rattle.wf_ballot.specs.Sequence.{IsSlot, seq_bytes}
use Rattle.wf_ballot.specs.Ballot.{IsRound, Ballot, IsBallot, round_bytes, ballot_bytes}
use Rattle.wf_ballot.specs.Front.{front_node, front_slot, front_round, front_ballot}

pub data Field : Type 0 where
  NodeField : Field
  SlotField : Field
  RoundField : Field
  BallotField : Field

-- what such a field says
abbrev pub Value : Field → Type 0
Value NodeField = ℕ
Value SlotField = ℕ
Value RoundField = ℕ
Value BallotField = Ballot

-- the value is in the field's range
abbrev pub IsValue : (field : Field) → Value field → Type 0
IsValue NodeField = IsNode
IsValue SlotField = IsSlot
IsValue RoundField = IsRound
IsValue BallotField = IsBallot

-- the bytes of the value
abbrev pub value_bytes : (field : Field) → Value field → List ℕ
value_bytes NodeField = node_bytes
value_bytes SlotField = seq_bytes
value_bytes RoundField = round_bytes
value_bytes BallotField = ballot_bytes

-- the number of these bytes
abbrev pub width : Field → ℕ
width NodeField = 1
width SlotField = 2
width RoundField = 4
width BallotField = 5

-- the value at the front of bytes and the bytes after it, None if no value in the field's range is
-- there
abbrev pub front_value : (field : Field) → List ℕ → Option (Value field × List ℕ)
front_value NodeField = front_node
front_value SlotField = front_slot
front_value RoundField = front_round
front_value BallotField = front_ballot

-- ---- a value with its field

pub data FieldValue : Type 0 where
  NodeValue : ℕ → FieldValue
  SlotValue : ℕ → FieldValue
  RoundValue : ℕ → FieldValue
  BallotValue : Ballot → FieldValue

abbrev pub field_of : FieldValue → Field
field_of (NodeValue node) = NodeField
field_of (SlotValue slot) = SlotField
field_of (RoundValue round) = RoundField
field_of (BallotValue ballot) = BallotField

abbrev pub value_of : (v : FieldValue) → Value (field_of v)
value_of (NodeValue node) = node
value_of (SlotValue slot) = slot
value_of (RoundValue round) = round
value_of (BallotValue ballot) = ballot

abbrev pub value_with : (field : Field) → Value field → FieldValue
value_with NodeField node = NodeValue node
value_with SlotField slot = SlotValue slot
value_with RoundField round = RoundValue round
value_with BallotField ballot = BallotValue ballot
