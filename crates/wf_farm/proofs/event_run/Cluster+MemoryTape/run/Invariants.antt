-- The events so far have happened, or one of them was torn.
use Rattle.std.proofs.Common.{◌≤◌, length, take, map}
use Rattle.wf_farm.proofs.Common.{KeepMembers, view, HaveRun, IsArmed}
use Rattle.wf_farm.proofs.event_run.Cluster+MemoryTape.run.Given as goal

abbrev pub invariant-loop-done : goal.invariant-loop-done
invariant-loop-done g l =
    HaveRun l.watch.node (take l.done (map view l.fn.events)) l.torn l.why l.initial.self.hosts.items l.initial.self.sent.items l.self.hosts.items l.self.sent.items
    × IsArmed l.watch.node l.torn l.self.hosts.items
    × KeepMembers l.initial.self.hosts.items l.self.hosts.items
    × (length l.initial.self.sent.items ≤ length l.self.sent.items)
