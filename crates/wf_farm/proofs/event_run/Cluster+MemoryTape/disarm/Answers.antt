-- No tape may fail any more.
use Rattle.std.proofs.Common.{None, length, refl, sym, subst, arith, slice_set}
use Rattle.wf_farm.proofs.Common.{slice_get_read, KeepMembers, StayShown, FailsOnly}
use Rattle.wf_farm.proofs.Events.{nothing_stays}
use Rattle.wf_farm.proofs.TriedEvents.{absent_only, fused_shown, unfused_members, unfused_only}
use Rattle.wf_farm.proofs.event_run.Cluster+MemoryTape.disarm.Goals as goal

pub returns-in_default-clause-stays : goal.returns-in_default-clause-stays
returns-in_default-clause-stays c = nothing_stays c.args.self.now.hosts.items c.args.self.now.sent.items 0

pub returns-then-node-len-clause-only : goal.returns-then-node-len-clause-only
returns-then-node-len-clause-only c = λ sturdy.
    let at = slice_get_read c.args.self.now.hosts.items (length c.args.self.now.hosts.items) c.in-Some.node c.index_mut.result.now refl (omega (arith, c.if-node-len.true, c.len.ensures)) c.index_mut.ensures.value in
    subst (λ p. FailsOnly None (slice_set c.args.self.now.hosts.items c.in-Some.node p)) (sym c.set_fuse.ensures) (unfused_only c.args.self.now.hosts.items c.in-Some.node c.index_mut.result.now at (subst (λ w. FailsOnly w c.args.self.now.hosts.items) c.in-Some.is sturdy))

pub returns-then-node-len-clause-stays : goal.returns-then-node-len-clause-stays
returns-then-node-len-clause-stays c =
    let at = slice_get_read c.args.self.now.hosts.items (length c.args.self.now.hosts.items) c.in-Some.node c.index_mut.result.now refl (omega (arith, c.if-node-len.true, c.len.ensures)) c.index_mut.ensures.value in
    subst (λ p. StayShown c.args.self.now.hosts.items c.args.self.now.sent.items (slice_set c.args.self.now.hosts.items c.in-Some.node p) c.args.self.now.sent.items) (sym c.set_fuse.ensures) (fused_shown c.args.self.now.hosts.items c.args.self.now.sent.items c.in-Some.node 0 0 c.index_mut.result.now at)

pub returns-then-node-len-clause-members : goal.returns-then-node-len-clause-members
returns-then-node-len-clause-members c =
    let at = slice_get_read c.args.self.now.hosts.items (length c.args.self.now.hosts.items) c.in-Some.node c.index_mut.result.now refl (omega (arith, c.if-node-len.true, c.len.ensures)) c.index_mut.ensures.value in
    subst (λ p. KeepMembers c.args.self.now.hosts.items (slice_set c.args.self.now.hosts.items c.in-Some.node p)) (sym c.set_fuse.ensures) (unfused_members c.args.self.now.hosts.items c.in-Some.node c.index_mut.result.now at)

pub returns-else-node-len-clause-only : goal.returns-else-node-len-clause-only
returns-else-node-len-clause-only c = λ sturdy. absent_only c.args.self.now.hosts.items c.in-Some.node (omega (arith, c.if-node-len.false, c.len.ensures)) (subst (λ w. FailsOnly w c.args.self.now.hosts.items) c.in-Some.is sturdy)

pub returns-else-node-len-clause-stays : goal.returns-else-node-len-clause-stays
returns-else-node-len-clause-stays c = nothing_stays c.args.self.now.hosts.items c.args.self.now.sent.items 0
