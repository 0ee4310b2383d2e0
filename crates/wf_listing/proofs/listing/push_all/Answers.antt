-- The lines of the records, and then that of what follows them.
use Rattle.std.proofs.Common.{◌-◌, map, length, arith, refl}
use Rattle.std.specs.String.{string_bytes}
use Rattle.wf_journal.specs.Record.{view}
use Rattle.wf_listing.proofs.Lines.{ends_within, listed}
use Rattle.wf_listing.proofs.listing.push_all.Goals as goal

pub overflow_sub-bytes : goal.overflow_sub-bytes
overflow_sub-bytes c = omega (arith, ends_within c.args.bytes.now (map view c.args.records.now) c.args.is_bad c.requires.found, c.in_ok-end.ensures.end)

pub returns : goal.returns
returns c =
    listed c.args.bytes.now (map view c.args.records.now) c.args.is_bad c.requires.found c.in_ok-end.end (length c.args.bytes.now - c.in_ok-end.end) c.rest_of.result
    (string_bytes c.args.out.now) (string_bytes c.push_records.new.out) (string_bytes c.push_rest.new.out) c.push_rest.result
    c.requires.empty c.in_ok-end.ensures.end refl c.rest_of.ensures c.in_ok-end.ensures.lines c.push_rest.ensures
