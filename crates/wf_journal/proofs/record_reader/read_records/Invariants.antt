use Rattle.std.proofs.Common.{map, length}
use Rattle.wf_journal.specs.Record.{view}
use Rattle.wf_journal.specs.Records.{Splits}
use Rattle.wf_journal.proofs.record_reader.read_records.Given as goal

-- the bytes are the records found so far, followed by the rest
abbrev pub invariant-loop-alloc : goal.invariant-loop-alloc
invariant-loop-alloc l = Splits l.bytes (map view l.records.items) l.rest

abbrev pub decreases-loop-alloc : goal.decreases-loop-alloc
decreases-loop-alloc l = length l.rest
