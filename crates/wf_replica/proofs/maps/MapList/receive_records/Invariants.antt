-- The records so far are those of the list, one after the other, and all that was heard was read.
use Rattle.std.proofs.Common.{◌≡◌, map, take}
use Rattle.wf_journal.specs.Record.{view}
use Rattle.wf_replica.specs.LearnedList.{messages_of}
use Rattle.wf_replica.specs.MapList.{IsReadFromTape, maps_of}
use Rattle.wf_safety.specs.Replacement.{published_from}
use Rattle.wf_replica.proofs.maps.MapList.receive_records.Given as goal

abbrev pub invariant-loop-entry : goal.invariant-loop-entry
invariant-loop-entry l = IsReadFromTape (messages_of l.read.items) l.self × (map view (take l.entry-index l.fn.records) ≡ published_from 1 (maps_of l.self))
