-- Each iteration appends the line of one more record, and goes on to the offset at which it ends.
use Rattle.std.proofs.Common.{◌∙◌, ◌++◌, ◌+◌, List, map, length, ap, arith}
use Rattle.std.proofs.lemmas.List.{take_all}
use Rattle.std.specs.String.{string_bytes}
use Rattle.wf_listing.specs.Listing.{record_lines}
use Rattle.wf_journal.specs.declared.record.Record.{Record}
use Rattle.wf_journal.specs.Record.{view}
use Rattle.wf_journal.specs.Records.{length_of}
use Rattle.wf_listing.proofs.Lines.{no_lines, no_length, next_length, length_taken, lines_joined}
use Rattle.wf_listing.proofs.listing.push_records.Goals as goal

pub loop-entry-init : goal.loop-entry-init
loop-entry-init c = record { end = no_length; lines = no_lines (string_bytes c.args.out.now) }

pub overflow_add-offset : goal.overflow_add-offset
overflow_add-offset c =
    let next = next_length view c.args.records.now c.loop-entry.entry-index c.entry-item.result c.loop-entry-test.true c.entry-item.is in
    let most = length_taken view c.args.records.now (c.loop-entry.entry-index + 1) in
    omega (arith, next, most, c.loop-entry.invariant.end, c.length-offset.ensures, c.requires)

pub loop-entry-preserved : goal.loop-entry-preserved
loop-entry-preserved c =
    let next = next_length view c.args.records.now c.loop-entry.entry-index c.entry-item.result c.loop-entry-test.true c.entry-item.is in
    record {
      end = omega (arith, next, c.loop-entry.invariant.end, c.length-offset.ensures);
      lines = lines_joined view c.args.records.now c.loop-entry.entry-index c.entry-item.result c.loop-entry-test.true c.entry-item.is c.loop-entry.offset
          (string_bytes c.args.out.now) (string_bytes c.loop-entry.out) (string_bytes c.push_record.new.out) c.loop-entry.invariant.end c.loop-entry.invariant.lines c.in_ok-push_record.ensures;
    }

pub returns-clause-end : goal.returns-clause-end
returns-clause-end c =
    let whole = take_all c.loop-entry.entry-index c.args.records.now c.loop-entry-test.false in
    c.loop-entry.invariant.end ∙ ap (λ (rs : List Record). length_of (map view rs)) whole

pub returns-clause-lines : goal.returns-clause-lines
returns-clause-lines c =
    let whole = take_all c.loop-entry.entry-index c.args.records.now c.loop-entry-test.false in
    c.loop-entry.invariant.lines ∙ ap (λ (rs : List Record). string_bytes c.args.out.now ++ record_lines 0 (map view rs)) whole
