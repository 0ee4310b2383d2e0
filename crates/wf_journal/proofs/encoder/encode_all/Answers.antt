-- Each iteration appends the encoding of one more record.
use Rattle.std.proofs.Common.{◌≡◌, List, map, take, arith, subst}
use Rattle.std.proofs.lemmas.List.{take_all}
use Rattle.wf_journal.specs.Record.{view}
use Rattle.wf_journal.specs.Records.{AreWritten}
use Rattle.wf_journal.specs.declared.record.Record.{Record}
use Rattle.wf_journal.proofs.Lists.{one_more_taken, nothing_spelled}
use Rattle.wf_journal.proofs.encoder.encode_all.Goals as goal

pub loop-entry-init : goal.loop-entry-init
loop-entry-init c = record { are_records = c.new-bytes.ensures.items; spelled = nothing_spelled c.new-bytes.result.items c.new-bytes.ensures.items }

pub loop-entry-preserved : goal.loop-entry-preserved
loop-entry-preserved c =
    one_more_taken view c.loop-entry.bytes.items c.push.new.out.items c.args.records.now c.loop-entry.entry-index c.entry-item.result c.loop-entry-test.true c.entry-item.is
    c.loop-entry.invariant c.push.ensures.is_record c.in_ok-push.ensures.spelled

pub returns : goal.returns
returns c =
    let whole : take c.loop-entry.entry-index c.args.records.now ≡ c.args.records.now = take_all c.loop-entry.entry-index c.args.records.now (omega arith) in
    subst (λ (rs : List Record). AreWritten c.loop-entry.bytes.items (map view rs)) whole c.loop-entry.invariant
