-- written so far: the records before this one
use Rattle.std.proofs.Common.{map, take}
use Rattle.wf_journal.specs.Record.{view}
use Rattle.wf_journal.specs.Records.{AreWritten}
use Rattle.wf_journal.proofs.encoder.encode_all.Given as goal

abbrev pub invariant-loop-entry : goal.invariant-loop-entry
invariant-loop-entry l = AreWritten l.bytes.items (map view (take l.entry-index l.records))
