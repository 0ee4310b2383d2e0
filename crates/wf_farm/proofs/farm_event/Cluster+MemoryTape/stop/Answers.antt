-- The node in the entry stops; if there is none, nothing happens.
use Rattle.std.proofs.Common.{length, refl, arith}
use Rattle.wf_farm.proofs.Common.{slice_get_past, slice_get_read}
use Rattle.wf_farm.proofs.Events.{absent_stops, host_keeps, host_stops}
use Rattle.wf_farm.proofs.Steps.{stops_member}
use Rattle.wf_farm.proofs.farm_event.Cluster+MemoryTape.stop.Goals as goal

pub returns-then-node-len-clause-done : goal.returns-then-node-len-clause-done
returns-then-node-len-clause-done c =
    let at = slice_get_read c.args.self.now.hosts.items (length c.args.self.now.hosts.items) c.args.node c.index_mut.result.now refl (omega (arith, c.if-node-len.true, c.len.ensures)) c.index_mut.ensures.value in
    host_stops c.args.self.now.hosts.items c.args.self.now.sent.items c.args.node c.index_mut.result.now c.stop.new.self at c.requires.members c.stop.ensures.stopped

pub returns-then-node-len-clause-members : goal.returns-then-node-len-clause-members
returns-then-node-len-clause-members c =
    let at = slice_get_read c.args.self.now.hosts.items (length c.args.self.now.hosts.items) c.args.node c.index_mut.result.now refl (omega (arith, c.if-node-len.true, c.len.ensures)) c.index_mut.ensures.value in
    host_keeps c.args.self.now.hosts.items c.args.node c.index_mut.result.now c.stop.new.self at (stops_member c.index_mut.result.now c.stop.new.self c.stop.ensures.stopped) c.stop.ensures.sturdy

pub returns-else-node-len-clause-done : goal.returns-else-node-len-clause-done
returns-else-node-len-clause-done c =
    absent_stops c.args.self.now.hosts.items c.args.self.now.sent.items c.args.node (slice_get_past c.args.self.now.hosts.items c.args.node (omega (arith, c.if-node-len.false, c.len.ensures)))
