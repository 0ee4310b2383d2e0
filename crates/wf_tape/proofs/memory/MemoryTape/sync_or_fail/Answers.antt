-- The sync fails, and has changed nothing.
use Rattle.std.proofs.Common.{refl, sym}
use Rattle.wf_tape.specs.Tape.{Sync}
use Rattle.wf_tape.proofs.Called.{called_cut}
use Rattle.wf_tape.proofs.memory.MemoryTape.sync_or_fail.Goals as goal

pub returns-in-Some-clause-called : goal.returns-in-Some-clause-called
returns-in-Some-clause-called c =
    called_cut Sync c.in-Some.field-0 c.args.self.now c.count_call.new.self c.count_call.new.self c.fail.new.self c.fail.result (sym c.in-Some.ensures.kept) c.count_call.ensures.counted refl c.fail.ensures.fault c.fail.ensures.counted
