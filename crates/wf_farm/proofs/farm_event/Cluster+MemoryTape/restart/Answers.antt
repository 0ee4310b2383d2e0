-- The node in the entry restarts; if there is none, nothing happens.
use Rattle.std.proofs.Common.{length, refl, arith}
use Rattle.wf_farm.proofs.Common.{slice_get_past, slice_get_read}
use Rattle.wf_farm.proofs.Events.{absent_restarts, cast_id, cast_members, host_restarts, host_stays}
use Rattle.wf_farm.proofs.Allocation.{restart_may}
use Rattle.wf_farm.proofs.farm_event.Cluster+MemoryTape.restart.Goals as goal

pub returns-then-node-n-clause-done : goal.returns-then-node-n-clause-done
returns-then-node-n-clause-done c =
    absent_restarts c.args.self.now.hosts.items c.args.self.now.sent.items c.args.node (slice_get_past c.args.self.now.hosts.items c.args.node (omega (arith, c.if-node-n.true, c.len-n.ensures)))

pub returns-in-Ok-clause-done : goal.returns-in-Ok-clause-done
returns-in-Ok-clause-done c =
    let at = slice_get_read c.args.self.now.hosts.items (length c.args.self.now.hosts.items) c.args.node c.index_mut.result.now refl (omega (arith, c.if-node-n.false, c.len-n.ensures)) c.index_mut.ensures.value in
    host_restarts c.args.self.now.hosts.items c.args.self.now.sent.items c.args.node c.index_mut.result.now c.restart.new.self at c.in-Ok.ensures.restarted

pub returns-in-Err-clause-err : goal.returns-in-Err-clause-err
returns-in-Err-clause-err c =
    let at = slice_get_read c.args.self.now.hosts.items (length c.args.self.now.hosts.items) c.args.node c.index_mut.result.now refl (omega (arith, c.if-node-n.false, c.len-n.ensures)) c.index_mut.ensures.value in
    host_stays c.args.self.now.hosts.items c.args.self.now.sent.items c.args.node c.index_mut.result.now c.restart.new.self at c.in-Err.ensures.err

pub returns-in-Ok-clause-members : goal.returns-in-Ok-clause-members
returns-in-Ok-clause-members c =
    let at = slice_get_read c.args.self.now.hosts.items (length c.args.self.now.hosts.items) c.args.node c.index_mut.result.now refl (omega (arith, c.if-node-n.false, c.len-n.ensures)) c.index_mut.ensures.value in
    cast_members c.args.self.now.hosts.items c.args.node c.index_mut.result.now c.restart.new.self c.len-n.result c.unwrap-id.result at
    (omega (arith, c.len-n.ensures)) (cast_id c.new.result c.unwrap-id.result c.args.node c.args.node c.unwrap-id.ensures c.new.ensures.value refl) c.restart.ensures.member c.restart.ensures.sturdy

pub returns-in-Err-clause-members : goal.returns-in-Err-clause-members
returns-in-Err-clause-members c =
    let at = slice_get_read c.args.self.now.hosts.items (length c.args.self.now.hosts.items) c.args.node c.index_mut.result.now refl (omega (arith, c.if-node-n.false, c.len-n.ensures)) c.index_mut.ensures.value in
    cast_members c.args.self.now.hosts.items c.args.node c.index_mut.result.now c.restart.new.self c.len-n.result c.unwrap-id.result at
    (omega (arith, c.len-n.ensures)) (cast_id c.new.result c.unwrap-id.result c.args.node c.args.node c.unwrap-id.ensures c.new.ensures.value refl) c.restart.ensures.member c.restart.ensures.sturdy

-- the node is stopped
pub returns-in-Err-clause-may : goal.returns-in-Err-clause-may
returns-in-Err-clause-may c =
    let at = slice_get_read c.args.self.now.hosts.items (length c.args.self.now.hosts.items) c.args.node c.index_mut.result.now refl (omega (arith, c.if-node-n.false, c.len-n.ensures)) c.index_mut.ensures.value in
    restart_may c.args.self.now.hosts.items c.args.self.now.sent.items c.args.node c.index_mut.result.now at c.in-Err.ensures.stopped
