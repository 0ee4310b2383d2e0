-- The content is replaced, or the failure that was set happens.
use Rattle.wf_tape.specs.Tape.{Replace}
use Rattle.wf_tape.proofs.Called.{replaces, stays_sturdy, fails_soundly}
use Rattle.wf_tape.proofs.memory.MemoryTapeTape.replace.Goals as goal

pub returns-clause-ok : goal.returns-clause-ok
returns-clause-ok c = λ durable. (replaces c.args.self.now c.replace_or_fail.new.self c.args.bytes.now c.replace_or_fail.result c.replace_or_fail.ensures.called).ok

pub returns-clause-synced : goal.returns-clause-synced
returns-clause-synced c = λ durable. (replaces c.args.self.now c.replace_or_fail.new.self c.args.bytes.now c.replace_or_fail.result c.replace_or_fail.ensures.called).synced

pub returns-clause-err : goal.returns-clause-err
returns-clause-err c = λ durable. (replaces c.args.self.now c.replace_or_fail.new.self c.args.bytes.now c.replace_or_fail.result c.replace_or_fail.ensures.called).err

pub returns-clause-images : goal.returns-clause-images
returns-clause-images c = λ durable. (replaces c.args.self.now c.replace_or_fail.new.self c.args.bytes.now c.replace_or_fail.result c.replace_or_fail.ensures.called).images

pub returns-clause-memory : goal.returns-clause-memory
returns-clause-memory c = λ durable. (replaces c.args.self.now c.replace_or_fail.new.self c.args.bytes.now c.replace_or_fail.result c.replace_or_fail.ensures.called).memory

pub returns-clause-time : goal.returns-clause-time
returns-clause-time c = λ durable. (replaces c.args.self.now c.replace_or_fail.new.self c.args.bytes.now c.replace_or_fail.result c.replace_or_fail.ensures.called).time

pub returns-clause-inside : goal.returns-clause-inside
returns-clause-inside c = λ durable. (replaces c.args.self.now c.replace_or_fail.new.self c.args.bytes.now c.replace_or_fail.result c.replace_or_fail.ensures.called).inside

pub returns-clause-cause : goal.returns-clause-cause
returns-clause-cause c = (replaces c.args.self.now c.replace_or_fail.new.self c.args.bytes.now c.replace_or_fail.result c.replace_or_fail.ensures.called).cause

pub returns-clause-sturdy : goal.returns-clause-sturdy
returns-clause-sturdy c = stays_sturdy (Replace c.args.bytes.now) c.args.self.now c.replace_or_fail.new.self _ c.replace_or_fail.ensures.called

pub returns-clause-sound : goal.returns-clause-sound
returns-clause-sound c = fails_soundly (Replace c.args.bytes.now) c.args.self.now c.replace_or_fail.new.self c.replace_or_fail.result c.replace_or_fail.ensures.called
