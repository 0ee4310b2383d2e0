-- Only the tape of this node may fail now.
use Rattle.std.proofs.Common.{Some, length, refl, sym, subst, arith, slice_set}
use Rattle.wf_farm.proofs.Common.{slice_get_read, AreSoundHosts, StayShown, FailsOnly}
use Rattle.wf_farm.proofs.Events.{nothing_stays}
use Rattle.wf_farm.proofs.TriedEvents.{absent_armed, fused_members, fused_only, fused_shown}
use Rattle.wf_farm.proofs.event_run.Cluster+MemoryTape.arm.Goals as goal

pub returns-then-node-len-clause-only : goal.returns-then-node-len-clause-only
returns-then-node-len-clause-only c = λ sturdy.
    let at = slice_get_read c.args.self.now.hosts.items (length c.args.self.now.hosts.items) c.args.node c.index_mut.result.now refl (omega (arith, c.if-node-len.true, c.len.ensures)) c.index_mut.ensures.value in
    subst (λ p. FailsOnly (Some c.args.node) (slice_set c.args.self.now.hosts.items c.args.node p)) (sym c.set_fuse.ensures) (fused_only c.args.self.now.hosts.items c.args.self.now.sent.items c.args.node c.args.call c.args.kept c.index_mut.result.now at sturdy)

pub returns-then-node-len-clause-stays : goal.returns-then-node-len-clause-stays
returns-then-node-len-clause-stays c =
    let at = slice_get_read c.args.self.now.hosts.items (length c.args.self.now.hosts.items) c.args.node c.index_mut.result.now refl (omega (arith, c.if-node-len.true, c.len.ensures)) c.index_mut.ensures.value in
    subst (λ p. StayShown c.args.self.now.hosts.items c.args.self.now.sent.items (slice_set c.args.self.now.hosts.items c.args.node p) c.args.self.now.sent.items) (sym c.set_fuse.ensures) (fused_shown c.args.self.now.hosts.items c.args.self.now.sent.items c.args.node c.args.call c.args.kept c.index_mut.result.now at)

pub returns-then-node-len-clause-members : goal.returns-then-node-len-clause-members
returns-then-node-len-clause-members c =
    let at = slice_get_read c.args.self.now.hosts.items (length c.args.self.now.hosts.items) c.args.node c.index_mut.result.now refl (omega (arith, c.if-node-len.true, c.len.ensures)) c.index_mut.ensures.value in
    subst (λ p. AreSoundHosts (slice_set c.args.self.now.hosts.items c.args.node p)) (sym c.set_fuse.ensures) (fused_members c.args.self.now.hosts.items c.args.self.now.sent.items c.args.node c.args.call c.args.kept c.index_mut.result.now at c.requires.members)

pub returns-else-node-len-clause-only : goal.returns-else-node-len-clause-only
returns-else-node-len-clause-only c = absent_armed c.args.self.now.hosts.items (Some c.args.node)

pub returns-else-node-len-clause-stays : goal.returns-else-node-len-clause-stays
returns-else-node-len-clause-stays c = nothing_stays c.args.self.now.hosts.items c.args.self.now.sent.items c.args.node
