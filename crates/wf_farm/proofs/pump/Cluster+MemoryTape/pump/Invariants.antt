-- The deliveries so far.
use Rattle.std.proofs.Common.{◌-◌}
use Rattle.wf_farm.proofs.Common.{KeepMembers, HasFaredTo, IsArmed}
use Rattle.wf_farm.proofs.pump.Cluster+MemoryTape.pump.Given as goal

abbrev pub invariant-loop-progress : goal.invariant-loop-progress
invariant-loop-progress g l =
    HasFaredTo l.watch.node l.fn.targets l.first l.progress l.torn l.initial.self.hosts.items l.initial.self.sent.items l.self.hosts.items l.self.sent.items
    × IsArmed l.watch.node l.torn l.self.hosts.items
    × KeepMembers l.initial.self.hosts.items l.self.hosts.items

abbrev pub decreases-loop-progress : goal.decreases-loop-progress
decreases-loop-progress g l = 100000 - l.progress.done
