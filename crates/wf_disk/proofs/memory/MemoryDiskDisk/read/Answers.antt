-- The call ends a moment.
use Rattle.std.proofs.Common.{◌∙◌}
use Rattle.wf_disk.proofs.Noted.{time_changed, inside_changed}
use Rattle.wf_disk.proofs.memory.MemoryDiskDisk.read.Goals as goal

pub returns-in-Ok-clause-time : goal.returns-in-Ok-clause-time
returns-in-Ok-clause-time c = λ durable. time_changed c.args.self.now.folder c.begin-kept.new.self.folder c.args.self.now.past c.begin-kept.new.self.past c.begin-kept.ensures.past

pub returns-in-Ok-clause-inside : goal.returns-in-Ok-clause-inside
returns-in-Ok-clause-inside c = λ durable. inside_changed c.args.self.now.folder c.begin-kept.new.self.folder c.args.self.now.past c.begin-kept.new.self.past c.begin-kept.ensures.past

pub returns-in-Err-clause-time : goal.returns-in-Err-clause-time
returns-in-Err-clause-time c = λ durable. time_changed c.args.self.now.folder c.count.new.self.folder c.args.self.now.past c.count.new.self.past (c.count.ensures.past ∙ c.begin-kept.ensures.past)

pub returns-in-Err-clause-inside : goal.returns-in-Err-clause-inside
returns-in-Err-clause-inside c = λ durable. inside_changed c.args.self.now.folder c.count.new.self.folder c.args.self.now.past c.count.new.self.past (c.count.ensures.past ∙ c.begin-kept.ensures.past)
