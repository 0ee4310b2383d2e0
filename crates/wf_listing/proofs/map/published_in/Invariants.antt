-- The map is that of the records from this one on.
use Rattle.std.proofs.Common.{◌≡◌, drop, map}
use Rattle.wf_journal.specs.Record.{view}
use Rattle.wf_listing.specs.Map.{published_in}
use Rattle.wf_listing.proofs.map.published_in.Given as goal

abbrev pub invariant-loop-entry : goal.invariant-loop-entry
invariant-loop-entry l = published_in l.sequence (map view (drop l.entry-index l.records)) ≡ published_in l.sequence (map view l.records)
