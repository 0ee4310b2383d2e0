-- The records of a shortened tape, and the effect of shortening it on a node.
use Rattle.std.specs.Prelude.{◌≡◌, ◌≢◌, ℕ, zero, suc, min, Bool, true, false, ◌||◌, List, [], ◌∷◌, ◌++◌, Option, Some, None, Result, Err, OnOk, Vec, map}
use Rattle.wf_ballot.specs.Ballot.{Ballot}
use Rattle.wf_ballot.specs.Sequence.{last_sequence}
use Rattle.wf_def.specs.Definition.{Definition}
use Rattle.wf_model.specs.Message.{Vote}
use Rattle.wf_model.specs.DurableState.{DurableState, Record, Tried, Promised, Accepted, Published, next_sequence, definition_at}
use Rattle.wf_model.specs.Table.{votes_at}
use Rattle.wf_journal.specs.Journal.{Holds}
use Rattle.wf_journal.specs.Record.{view}
use Rattle.wf_journal.specs.declared.record.Record as tape
use Rattle.wf_node.specs.declared.fault.NodeFault.{NodeFault}
use Rattle.wf_node.specs.declared.fault.NodeFault.TheVariants.{Memory, Halted, TapeFailed}
use Rattle.wf_node.specs.Fault.{rejected_by}
use Rattle.wf_node.specs.Images.{AllStandFor}
use Rattle.wf_node.specs.Node.{Node, stored_of}
use Rattle.wf_node.specs.Step.{IsSameNode}
use Rattle.wf_tape.specs.Change.{Stays, HasFailed}
use Rattle.wf_tape.specs.declared.tape.Tape.{Ghosts as Tape}

-- the record of the last round tried, if one was
abbrev pub tried_records : ℕ → List (Record Definition)
tried_records zero = []
tried_records (suc r) = Tried (suc r) ∷ []

-- the record of the vote at sequence s, if there is one
abbrev pub vote_records : ℕ → Option (Vote Definition) → List (Record Definition)
vote_records s None = []
vote_records s (Some vote) = Accepted s vote.ballot vote.definition ∷ []

-- the records of a sequence with this definition published, or none, and with this vote, or none
abbrev pub records_by : ℕ → Option Definition → Option (Vote Definition) → List (Record Definition)
records_by s None vote = vote_records s vote
records_by s (Some d) vote = Published s d ∷ []

-- the records of a sequence
unfoldable pub records_at : DurableState Definition → ℕ → List (Record Definition)
records_at stored s = records_by s (definition_at stored.history s) (stored.votes s)

-- the records of the `count` sequences from s on
unfoldable pub records_from : DurableState Definition → ℕ → ℕ → List (Record Definition)
records_from stored s zero = []
records_from stored s (suc count) = records_at stored s ++ records_from stored (suc s) count

-- whether one of the votes at the first n sequences is at the ballot
unfoldable pub is_voted : (ℕ → Option (Vote Definition)) → Ballot → ℕ → Bool
is_voted votes b zero = false
is_voted votes b (suc n) = is_voted votes b n || votes_at (votes (suc n)) b

-- the sequence of the promise's record: the next one, or the last if that is published
unfoldable pub promised_sequence : DurableState Definition → ℕ
promised_sequence stored = min (next_sequence stored) last_sequence

-- the record of a promise, unless a vote is at its ballot
abbrev pub promise_record : ℕ → Ballot → Bool → List (Record Definition)
promise_record s b true = []
promise_record s b false = Promised s b ∷ []

-- the record of this promise, if there is one and no vote is at its ballot
abbrev pub promise_records : DurableState Definition → Option Ballot → List (Record Definition)
promise_records stored None = []
promise_records stored (Some b) = promise_record (promised_sequence stored) b (is_voted stored.votes b last_sequence)

-- The records of a shortened tape: the last round tried, then by sequence the published definitions
-- and the votes above them, and last the promise, unless a vote is at its ballot.
unfoldable pub short_records : DurableState Definition → List (Record Definition)
short_records stored = tried_records stored.tried ++ (records_from stored 1 last_sequence ++ promise_records stored stored.promise)

-- the list of records is the old one, followed by these
abbrev pub Appends : {A : Type 0} → List (Record Definition) → Vec tape.Record A → Vec tape.Record A → Type 0
Appends more old new = map view new.items ≡ map view old.items ++ more

module _ {T : Type 0} (tapes : Tape T) where
  -- The contract of shortening the tape of a node that isn't halted, clause by clause.
  pub record IsShortening {A : Type 0} (before : Node T) (result : Result A NodeFault) (after : Node T) : Type 0 where
    pub running : result ≢ Err Halted
    pub refused : rejected_by result ≡ None
    pub same : IsSameNode before after
    pub done : OnOk result (after.halted ≡ false)
    pub held : tapes.durable → OnOk result (Holds (tapes.content after.tape) (tapes.images after.tape) (short_records (stored_of before)))
    pub stands : tapes.durable → AllStandFor (stored_of before) (tapes.images after.tape)
    pub still_running : result ≡ Err Memory → after.halted ≡ false
    pub same_tape : tapes.durable → result ≡ Err Memory → Stays tapes before.tape after.tape
    pub failed : result ≡ Err TapeFailed → HasFailed tapes before.tape after.tape
    pub halts : result ≡ Err TapeFailed → after.halted ≡ true
