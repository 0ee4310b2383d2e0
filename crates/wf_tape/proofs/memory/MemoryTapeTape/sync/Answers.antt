-- All bytes are synced, or the failure that was set happens.
use Rattle.wf_tape.specs.Tape.{Sync}
use Rattle.wf_tape.proofs.Called.{syncs, not_memory, stays_sturdy, fails_soundly}
use Rattle.wf_tape.proofs.memory.MemoryTapeTape.sync.Goals as goal

pub returns-clause-ok : goal.returns-clause-ok
returns-clause-ok c = λ durable sure. (syncs c.args.self.now c.sync_or_fail.new.self c.sync_or_fail.result c.sync_or_fail.ensures.within c.sync_or_fail.ensures.called).ok

pub returns-clause-same : goal.returns-clause-same
returns-clause-same c = λ durable. (syncs c.args.self.now c.sync_or_fail.new.self c.sync_or_fail.result c.sync_or_fail.ensures.within c.sync_or_fail.ensures.called).same

pub returns-clause-images : goal.returns-clause-images
returns-clause-images c = λ durable. (syncs c.args.self.now c.sync_or_fail.new.self c.sync_or_fail.result c.sync_or_fail.ensures.within c.sync_or_fail.ensures.called).images

pub returns-clause-memory : goal.returns-clause-memory
returns-clause-memory c = not_memory c.sync_or_fail.result c.sync_or_fail.ensures.memory

pub returns-clause-time : goal.returns-clause-time
returns-clause-time c = λ durable. (syncs c.args.self.now c.sync_or_fail.new.self c.sync_or_fail.result c.sync_or_fail.ensures.within c.sync_or_fail.ensures.called).time

pub returns-clause-inside : goal.returns-clause-inside
returns-clause-inside c = λ durable. (syncs c.args.self.now c.sync_or_fail.new.self c.sync_or_fail.result c.sync_or_fail.ensures.within c.sync_or_fail.ensures.called).inside

pub returns-clause-cause : goal.returns-clause-cause
returns-clause-cause c = (syncs c.args.self.now c.sync_or_fail.new.self c.sync_or_fail.result c.sync_or_fail.ensures.within c.sync_or_fail.ensures.called).cause

pub returns-clause-sturdy : goal.returns-clause-sturdy
returns-clause-sturdy c = stays_sturdy Sync c.args.self.now c.sync_or_fail.new.self _ c.sync_or_fail.ensures.called

pub returns-clause-sound : goal.returns-clause-sound
returns-clause-sound c = fails_soundly Sync c.args.self.now c.sync_or_fail.new.self c.sync_or_fail.result c.sync_or_fail.ensures.called
