-- A node's durable state in memory, and the room for one more record.
use Rattle.std.specs.Prelude.{◌≡◌, ℕ, ⊤, Bool, true, List, Option, Some, None, IsSome}
use Rattle.wf_ballot.specs.Ballot.{Ballot}
use Rattle.wf_def.specs.Definition.{Definition}
use Rattle.wf_model.specs.DurableState.{DurableState}
use Rattle.wf_model.specs.VolatileState.{VolatileState}
use Rattle.wf_model.specs.Table.{Transition, on_prepare, on_accept}
use Rattle.wf_acceptor.specs.AcceptorAnswer.{transition_of}
use Rattle.wf_acceptor.specs.declared.acceptor.AcceptorAnswer.{AcceptorAnswer}
use Rattle.wf_journal.specs.declared.record.Record.{Record}
use Rattle.wf_journal.specs.declared.record.Record.TheVariants.{Tried, Promised, Accepted, Published}
use Rattle.wf_learner.specs.History.{with_chosen}
use Rattle.wf_node.specs.Parts as parts
use Rattle.wf_node.specs.Parts.{Parts}

-- The node's number and its durable state; and, only for `HasRoomFor`, the prepared record and
-- whether there is room for one more published definition.
pub record DurablePart : Type 0 where
  pub id : ℕ
  pub parts : Parts
  pub prepared : Option Record
  pub has_room : Bool

-- the durable state as in wf_model
abbrev pub stored_of : DurablePart → DurableState Definition
stored_of persistent = parts.stored_of persistent.parts

-- There is room for the record: applying it doesn't allocate. That holds of a tried round and a
-- promise, of a vote that is prepared, and of a published definition if there is room for one more.
abbrev pub IsRoomFor : Option Record → Bool → Record → Type 0
IsRoomFor prepared has_room (Tried round) = ⊤
IsRoomFor prepared has_room (Promised s b) = ⊤
IsRoomFor prepared has_room (Accepted s b d) = prepared ≡ Some (Accepted s b d)
IsRoomFor prepared has_room (Published s d) = has_room ≡ true

abbrev pub HasRoomFor : DurablePart → Record → Type 0
HasRoomFor persistent r = IsRoomFor persistent.prepared persistent.has_room r

-- There is room for the record, unless it is a vote.
abbrev pub HasRoomIfOwn : DurablePart → Option Record → Type 0
HasRoomIfOwn persistent None = ⊤
HasRoomIfOwn persistent (Some (Tried round)) = ⊤
HasRoomIfOwn persistent (Some (Promised s b)) = ⊤
HasRoomIfOwn persistent (Some (Accepted s b d)) = ⊤
HasRoomIfOwn persistent (Some (Published s d)) = persistent.has_room ≡ true

-- the transition of a Prepare with this durable state and any volatile state, and that of an Accept
abbrev pub prepare_transition : DurablePart → ℕ → Ballot → VolatileState Definition → Transition Definition
prepare_transition persistent s b volatile = on_prepare persistent.id (stored_of persistent) volatile s b

abbrev pub accept_transition : DurablePart → ℕ → Ballot → Definition → VolatileState Definition → Transition Definition
accept_transition persistent s b d volatile = on_accept persistent.id (stored_of persistent) volatile s b d

-- The answer is this transition, at a node with any volatile state.
abbrev pub IsTransitionAnswer : (VolatileState Definition → Transition Definition) → AcceptorAnswer → Type 0
IsTransitionAnswer transition answer = (volatile : VolatileState Definition) → transition_of answer volatile ≡ transition volatile

-- The transition stores a record, whatever the volatile state is.
abbrev pub Stores : (VolatileState Definition → Transition Definition) → Type 0
Stores transition = (volatile : VolatileState Definition) → IsSome (transition volatile).entry

-- ---- used only in this crate's contracts: the effect of a record on the parts other than the
-- acceptor

-- there is room in the history, if the record publishes a definition
abbrev pub IsRoomy : Bool → Record → Type 0
IsRoomy has_room (Published s d) = has_room ≡ true
IsRoomy has_room r = ⊤

abbrev pub tried_after : ℕ → Record → ℕ
tried_after tried (Tried round) = round
tried_after tried r = tried

abbrev pub definitions_after : List Definition → Record → List Definition
definitions_after definitions (Published s d) = with_chosen definitions s d
definitions_after definitions r = definitions

abbrev pub publication_of : Record → Option (ℕ × Definition)
publication_of (Published s d) = Some (s, d)
publication_of r = None
