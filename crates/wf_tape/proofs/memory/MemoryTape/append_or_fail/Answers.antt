-- The append fails, and has added the first of the bytes.
use Rattle.std.proofs.Common.{sym}
use Rattle.wf_tape.proofs.Called.{called_kept}
use Rattle.wf_tape.proofs.memory.MemoryTape.append_or_fail.Goals as goal

pub returns-in-Ok-clause-called : goal.returns-in-Ok-clause-called
returns-in-Ok-clause-called c =
    called_kept c.args.bytes.now c.first.result.now c.in-Some.kept c.args.self.now c.count_call.new.self c.extend-in-Some.new.self c.fail.new.self c.fail.result (sym c.in-Some.ensures.kept) c.count_call.ensures.counted c.first.ensures
    c.in-Ok.ensures.ok c.fail.ensures.fault c.fail.ensures.counted
