-- The content is read, or the failure that was set happens.
use Rattle.wf_tape.specs.Tape.{Read}
use Rattle.wf_tape.proofs.Called.{reads, content_read, stays_sturdy, fails_soundly}
use Rattle.wf_tape.proofs.memory.MemoryTapeTape.read.Goals as goal

pub returns-clause-image : goal.returns-clause-image
returns-clause-image c = λ durable. content_read c.args.self.now c.read_or_fail.result

pub returns-clause-same : goal.returns-clause-same
returns-clause-same c = λ durable. (reads c.args.self.now c.read_or_fail.new.self c.read_or_fail.result c.read_or_fail.ensures.called).same

pub returns-clause-time : goal.returns-clause-time
returns-clause-time c = λ durable. (reads c.args.self.now c.read_or_fail.new.self c.read_or_fail.result c.read_or_fail.ensures.called).time

pub returns-clause-inside : goal.returns-clause-inside
returns-clause-inside c = λ durable. (reads c.args.self.now c.read_or_fail.new.self c.read_or_fail.result c.read_or_fail.ensures.called).inside

pub returns-clause-cause : goal.returns-clause-cause
returns-clause-cause c = (reads c.args.self.now c.read_or_fail.new.self c.read_or_fail.result c.read_or_fail.ensures.called).cause

pub returns-clause-sturdy : goal.returns-clause-sturdy
returns-clause-sturdy c = stays_sturdy Read c.args.self.now c.read_or_fail.new.self _ c.read_or_fail.ensures.called

pub returns-clause-sound : goal.returns-clause-sound
returns-clause-sound c = fails_soundly Read c.args.self.now c.read_or_fail.new.self c.read_or_fail.result c.read_or_fail.ensures.called
