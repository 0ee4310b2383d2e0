-- The records so far, followed by those still to come, are those of all sequences.
use Rattle.std.proofs.Common.{◌≡◌, ℕ, ◌+◌, ◌≤◌, ◌++◌, map}
use Rattle.wf_ballot.specs.Sequence.{last_sequence}
use Rattle.wf_journal.specs.Record.{view}
use Rattle.wf_node.specs.DurablePart.{stored_of}
use Rattle.wf_node.specs.Compaction.{records_from}
use Rattle.wf_node.proofs.compaction.push_sequences.Given as goal

abbrev pub invariant-loop-number : goal.invariant-loop-number
invariant-loop-number l = (1 ≤ l.number) × ((left : ℕ) → l.number + left ≡ 1 + last_sequence →
    map view l.records.items ++ records_from (stored_of l.persistent) l.number left ≡ map view l.fn.records.items ++ records_from (stored_of l.persistent) 1 last_sequence)
