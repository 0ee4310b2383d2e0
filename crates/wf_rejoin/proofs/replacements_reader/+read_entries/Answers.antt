-- Bytes that go on after the last line, or that no line begins, are the lines of no nodes.
use Rattle.std.proofs.Common.{◌≡◌, ◌≢◌, ◌<◌, length, rules}
use Rattle.wf_rejoin.specs.ReplacementsText.{IsEntry, entry_line}
use Rattle.wf_rejoin.proofs.Lines.{not_one_line, some_bytes}
use Rattle.wf_rejoin.proofs.replacements_reader.+read_entries.Goals as goal

pub returns-else-is_empty : goal.returns-else-is_empty
returns-else-is_empty t c =
    let none : length c.args.nodes.now ≡ 0 = search rules in
    let some : length c.args.bytes.now ≢ 0 = search rules in
    some_bytes IsEntry entry_line c.args.bytes.now c.args.nodes.now none some

pub returns-in_default-split_entry : goal.returns-in_default-split_entry
returns-in_default-split_entry t c =
    let some : 0 < length c.args.nodes.now = search rules in
    not_one_line IsEntry entry_line c.args.bytes.now (length c.args.nodes.now) some c.in_default-split_entry.ensures.none
