-- The lines so far are those of the records before this one, which ends at the offset.
use Rattle.std.proofs.Common.{◌≡◌, ◌++◌, map, take}
use Rattle.std.specs.String.{string_bytes}
use Rattle.wf_listing.specs.Listing.{record_lines}
use Rattle.wf_journal.specs.Record.{view}
use Rattle.wf_journal.specs.Records.{length_of}
use Rattle.wf_listing.proofs.listing.push_records.Given as goal

abbrev pub invariant-loop-entry : goal.invariant-loop-entry
invariant-loop-entry l = record {
  end : l.offset ≡ length_of (map view (take l.entry-index l.records));
  lines : string_bytes l.out ≡ string_bytes l.fn.out ++ record_lines 0 (map view (take l.entry-index l.records));
}
