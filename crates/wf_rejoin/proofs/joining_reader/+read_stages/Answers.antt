-- Bytes that go on after the last line, or that no line begins, are the lines of no nodes.
use Rattle.std.proofs.Common.{◌≡◌, ◌≢◌, ◌<◌, length, rules}
use Rattle.wf_rejoin.specs.JoiningText.{IsStage, stage_line}
use Rattle.wf_rejoin.proofs.Lines.{not_one_line, some_bytes}
use Rattle.wf_rejoin.proofs.joining_reader.+read_stages.Goals as goal

pub returns-else-is_empty : goal.returns-else-is_empty
returns-else-is_empty t c =
    let none : length c.args.stages.now ≡ 0 = search rules in
    let some : length c.args.bytes.now ≢ 0 = search rules in
    some_bytes IsStage stage_line c.args.bytes.now c.args.stages.now none some

pub returns-in_default-split_stage : goal.returns-in_default-split_stage
returns-in_default-split_stage t c =
    let some : 0 < length c.args.stages.now = search rules in
    not_one_line IsStage stage_line c.args.bytes.now (length c.args.stages.now) some c.in_default-split_stage.ensures.none
