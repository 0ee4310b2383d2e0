-- Used only in this crate's contracts: the answers, what a promise reports, and the acceptor after
-- a record is applied.
use Rattle.std.specs.Prelude.{ℕ, zero, suc, List, [], ◌∷◌, Option, Some, None, option_map, nat_le, if◌then◌else◌}
use Rattle.std.specs.Ordering.{nat_cmp}
use Rattle.std.specs.FinMap.{FinMap, get, insert, remove}
use Rattle.wf_ballot.specs.Ballot.{Ballot}
use Rattle.wf_ballot.specs.Sequence.{last_sequence}
use Rattle.wf_model.specs.DurableState.{raised}
use Rattle.wf_model.specs.VolatileState.{window}
use Rattle.wf_def.specs.Definition.{Definition}
use Rattle.wf_codec.specs.Report.{Report}
use Rattle.wf_codec.specs.declared.message.Message.{Message}
use Rattle.wf_codec.specs.declared.message.Message.TheVariants as message
use Rattle.wf_journal.specs.declared.record.Record.{Record}
use Rattle.wf_journal.specs.declared.record.Record.TheVariants.{Tried, Promised, Accepted, Published}
use Rattle.wf_acceptor.specs.Acceptor.{Acceptor, Part}
use Rattle.wf_acceptor.specs.declared.acceptor.AcceptorAnswer.{AcceptorAnswer}

-- the Nack with the promise, if there is one
abbrev pub nack_of : Part → ℕ → Ballot → Option Message
nack_of part s b = option_map (λ promise. message.Nack part.id s b promise) part.promise

-- the votes at the `count` slots from s on, as far as there are slots
unfoldable pub reported : FinMap nat_cmp (Ballot × Definition) → ℕ → ℕ → List (Option (Ballot × Definition))
reported votes s zero = []
reported votes s (suc count) = if nat_le s last_sequence then get votes s ∷ reported votes (suc s) count else []

-- what a promise from slot s on reports
abbrev pub report_of : Part → ℕ → Report
report_of part s = record { slot = s; votes = reported part.votes s window }

-- the answers of an acceptor that promises, that votes, and that only replies
abbrev pub promising : Part → ℕ → Ballot → AcceptorAnswer
promising part s b = record { entry = Some (Promised s b); reply = Some (message.Promise part.id b (report_of part s)) }

abbrev pub voting : Part → ℕ → Ballot → Definition → AcceptorAnswer
voting part s b d = record { entry = Some (Accepted s b d); reply = Some (message.Accepted part.id s b) }

abbrev pub replying : Option Message → AcceptorAnswer
replying reply = record { entry = None; reply = reply }

-- the acceptor of this part with no prepared record
abbrev pub unprepared : Part → Acceptor
unprepared part = record { part = part; prepared = None }

-- the definition of a vote's record, if it is one
abbrev pub definition_of : Option Record → Option Definition
definition_of (Some (Accepted s b d)) = Some d
definition_of entry = None

-- the part with the promise raised to the ballot
abbrev pub with_promise : Part → Ballot → Part
with_promise part b = record part { promise = raised part.promise b }

-- the part with the record's vote, if it is a vote, at a slot that isn't published
abbrev pub with_open : Part → Record → Part
with_open part (Accepted s b d) = record part { promise = raised part.promise b; votes = insert part.votes s (b, d) }
with_open part r = part

-- the same at any slot s: a published one is left without a vote
abbrev pub with_entry_at : Part → ℕ → Record → Part
with_entry_at part s r = if nat_le s part.published then part else with_open part r

-- the part without the vote of the slot, which is now published
abbrev pub with_published : Part → ℕ → Part
with_published part s = record part { published = s; votes = remove part.votes s }

-- the part after the record is applied
abbrev pub with_entry : Part → Record → Part
with_entry part (Tried round) = part
with_entry part (Promised s b) = with_promise part b
with_entry part (Accepted s b d) = with_entry_at part s (Accepted s b d)
with_entry part (Published s d) = with_published part s
