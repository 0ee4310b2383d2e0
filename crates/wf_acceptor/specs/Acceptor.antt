-- The model of an acceptor, the nodes that it acts for, and the effect of a record.
use Rattle.std.specs.Prelude.{◌≡◌, ℕ, ◌+◌, ⊤, Option, Some}
use Rattle.std.specs.Ordering.{nat_cmp}
use Rattle.std.specs.FinMap as map
use Rattle.std.specs.FinMap.{FinMap}
use Rattle.wf_ballot.specs.Ballot.{Ballot}
use Rattle.wf_model.specs.Message.{Vote}
use Rattle.wf_model.specs.DurableState as model
use Rattle.wf_model.specs.DurableState.{DurableState, published, with_record}
use Rattle.wf_def.specs.Definition.{Definition}
use Rattle.wf_codec.specs.Message.{view_vote}
use Rattle.wf_journal.specs.declared.record.Record.{Record}
use Rattle.wf_journal.specs.declared.record.Record.TheVariants.{Accepted, Published}

-- An acceptor's part of its node's stored state: the node's number, the number of published
-- definitions, the promise, which is one for all slots, and the vote at each slot.
pub record Part : Type 0 where
  pub id : ℕ
  pub published : ℕ
  pub promise : Option Ballot
  pub votes : FinMap nat_cmp (Ballot × Definition)

-- The part, which transitions and the fold concern; and the prepared record, which only
-- `HasRoomFor` concerns.
pub record Acceptor : Type 0 where
  pub part : Part
  pub prepared : Option Record

-- votes as in wf_model
abbrev pub votes_of : Part → ℕ → Option (Vote Definition)
votes_of part s = view_vote (map.get part.votes s)

-- The part agrees with this stored state: it has the same promise, the same votes, and the same
-- number of published definitions.
pub record ActsFor (part : Part) (stored : DurableState Definition) : Type 0 where
  pub promise : stored.promise ≡ part.promise
  pub votes : stored.votes ≡ votes_of part
  pub published : published stored ≡ part.published

-- The record is applied: if the old part agrees with a stored state, the new one agrees with that
-- state after the record.
abbrev pub Applies : Part → Part → model.Record Definition → Type 0
Applies old new r = (stored : DurableState Definition) → ActsFor old stored → ActsFor new (with_record stored r)

-- a record of a published definition is of the next slot
abbrev pub IsNextSlot : Part → Record → Type 0
IsNextSlot part (Published s d) = s ≡ part.published + 1
IsNextSlot part r = ⊤

-- There is room for the record: applying it doesn't allocate. That holds of each record but a vote,
-- and of the prepared one.
abbrev pub HasRoomFor : Acceptor → Record → Type 0
HasRoomFor acceptor (Accepted s b d) = acceptor.prepared ≡ Some (Accepted s b d)
HasRoomFor acceptor r = ⊤
