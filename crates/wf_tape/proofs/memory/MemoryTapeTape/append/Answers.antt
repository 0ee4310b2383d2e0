-- The bytes are appended, or the failure that was set happens.
use Rattle.wf_tape.specs.Tape.{Append}
use Rattle.wf_tape.proofs.Called.{appends, stays_sturdy, fails_soundly}
use Rattle.wf_tape.proofs.memory.MemoryTapeTape.append.Goals as goal

pub returns-clause-ok : goal.returns-clause-ok
returns-clause-ok c = λ durable. (appends c.args.self.now c.append_or_fail.new.self c.args.bytes.now c.append_or_fail.result c.append_or_fail.ensures.within c.append_or_fail.ensures.called).ok

pub returns-clause-err : goal.returns-clause-err
returns-clause-err c = λ durable. (appends c.args.self.now c.append_or_fail.new.self c.args.bytes.now c.append_or_fail.result c.append_or_fail.ensures.within c.append_or_fail.ensures.called).err

pub returns-clause-images : goal.returns-clause-images
returns-clause-images c = λ durable. (appends c.args.self.now c.append_or_fail.new.self c.args.bytes.now c.append_or_fail.result c.append_or_fail.ensures.within c.append_or_fail.ensures.called).images

pub returns-clause-memory : goal.returns-clause-memory
returns-clause-memory c = λ durable. (appends c.args.self.now c.append_or_fail.new.self c.args.bytes.now c.append_or_fail.result c.append_or_fail.ensures.within c.append_or_fail.ensures.called).memory

pub returns-clause-time : goal.returns-clause-time
returns-clause-time c = λ durable. (appends c.args.self.now c.append_or_fail.new.self c.args.bytes.now c.append_or_fail.result c.append_or_fail.ensures.within c.append_or_fail.ensures.called).time

pub returns-clause-inside : goal.returns-clause-inside
returns-clause-inside c = λ durable. (appends c.args.self.now c.append_or_fail.new.self c.args.bytes.now c.append_or_fail.result c.append_or_fail.ensures.within c.append_or_fail.ensures.called).inside

pub returns-clause-cause : goal.returns-clause-cause
returns-clause-cause c = (appends c.args.self.now c.append_or_fail.new.self c.args.bytes.now c.append_or_fail.result c.append_or_fail.ensures.within c.append_or_fail.ensures.called).cause

pub returns-clause-sturdy : goal.returns-clause-sturdy
returns-clause-sturdy c = stays_sturdy (Append c.args.bytes.now) c.args.self.now c.append_or_fail.new.self _ c.append_or_fail.ensures.called

pub returns-clause-sound : goal.returns-clause-sound
returns-clause-sound c = fails_soundly (Append c.args.bytes.now) c.args.self.now c.append_or_fail.new.self c.append_or_fail.result c.append_or_fail.ensures.called
