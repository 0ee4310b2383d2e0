-- Whatever was delivered, the farm is reached from the start.
use Rattle.std.proofs.Common.{ℕ, ◌≤◌, None, slice_get, length, IfOk, IfErr, refl, sym, subst, arith}
use Rattle.wf_farm.proofs.Common.{Definition, IsBeginning, DurableState, HasDurableState, HistoriesGrow, MemoryFarm, IsPumped, IsPumpedPart, deliveries}
use Rattle.wf_farm.proofs.TornRuns.{whole_moves}
use Rattle.wf_farm.proofs.PumpResult.{pump_done, pump_part}
use Rattle.wf_farm.proofs.Worlds.{farm_moved, grown, grown_still}
use Rattle.wf_farm.proofs.pump.Farm+MemoryTape.pump_by.Given as given
use Rattle.wf_farm.proofs.pump.Farm+MemoryTape.pump_by.Goals as goal

pub returns-in_default-clause-grows : goal.returns-in_default-clause-grows
unfolding HistoriesGrow
returns-in_default-clause-grows g c =
    subst (λ (farm : MemoryFarm). (i : ℕ) (old new : DurableState Definition) → HasDurableState (slice_get farm.hosts i) old → HasDurableState (slice_get farm.hosts i) new → IsBeginning old.history new.history) c.self.view_is
    (grown_still c.self.inside.cluster.hosts.items c.self.inside.cluster.sent.items c.self.inside.complete c.self.invariant.reached)

-- the farm before and after
abbrev before : (g : given.Over) (c : goal.After-drop-targets g) → MemoryFarm
before g c = record { hosts = c.self.inside.cluster.hosts.items; sent = c.self.inside.cluster.sent.items; pumped = c.self.inside.pumped; refused = c.self.inside.refused; complete = c.self.inside.complete }

abbrev after : (g : given.Over) (c : goal.After-drop-targets g) → MemoryFarm
after g c = record { hosts = c.pump-end.new.self.hosts.items; sent = c.pump-end.new.self.sent.items; pumped = c.pumped-self-inside.result; refused = c.self.inside.refused; complete = c.self.inside.complete }

pub invariant_of-self : goal.invariant_of-self
invariant_of-self g c =
    farm_moved c.self.inside.cluster.hosts.items c.pump-end.new.self.hosts.items c.self.inside.cluster.sent.items c.pump-end.new.self.sent.items c.self.inside.pumped c.pumped-self-inside.result c.self.inside.complete
    (deliveries c.deref.result.now c.self.inside.pumped c.pump-end.result.progress.whole c.pump-end.result.progress.some) c.self.invariant c.pump-end.ensures.members (whole_moves None (deliveries c.deref.result.now c.self.inside.pumped c.pump-end.result.progress.whole c.pump-end.result.progress.some) c.pump-end.result.torn c.self.inside.cluster.hosts.items c.pump-end.new.self.hosts.items c.self.inside.cluster.sent.items c.pump-end.new.self.sent.items refl (c.pump-end.ensures.come tt).fared)
    (subst (λ k. k ≤ length c.pump-end.new.self.sent.items) (sym c.pumped-self-inside.ensures) (c.pump-end.ensures.come tt).within)

pub returns-clause-done : goal.returns-clause-done
returns-clause-done g c =
    subst (λ (farm : MemoryFarm). IfOk c.pump_result.result (IsPumped c.args.nodes.now farm (after g c))) c.self.view_is
    (pump_done c.args.nodes.now (before g c) (after g c) c.len.result c.deref.result.now c.in-Ok.targets.items c.pump-end.result.progress (omega (arith, c.len.ensures)) c.deref.ensures.value c.in-Ok.ensures.targets
    None refl c.pump-end.result.torn (c.pump-end.ensures.come tt) c.pumped-self-inside.ensures c.pump-end.result.end c.pump-end.ensures.end c.pump_result.result c.pump_result.ensures)

pub returns-clause-part : goal.returns-clause-part
returns-clause-part g c =
    subst (λ (farm : MemoryFarm). IfErr c.pump_result.result (IsPumpedPart c.args.nodes.now farm (after g c))) c.self.view_is
    (pump_part c.args.nodes.now (before g c) (after g c) c.len.result c.deref.result.now c.in-Ok.targets.items c.pump-end.result.progress (omega (arith, c.len.ensures)) c.deref.ensures.value c.in-Ok.ensures.targets
    None refl c.pump-end.result.torn (c.pump-end.ensures.come tt) c.pumped-self-inside.ensures c.pump-end.result.end c.pump-end.ensures.end c.pump_result.result c.pump_result.ensures (c.pump-end.ensures.may refl))

pub returns-clause-grows : goal.returns-clause-grows
unfolding HistoriesGrow
returns-clause-grows g c =
    subst (λ (farm : MemoryFarm). (i : ℕ) (old new : DurableState Definition) → HasDurableState (slice_get farm.hosts i) old → HasDurableState (slice_get c.pump-end.new.self.hosts.items i) new → IsBeginning old.history new.history) c.self.view_is
    (grown c.self.inside.cluster.hosts.items c.pump-end.new.self.hosts.items c.self.inside.cluster.sent.items c.pump-end.new.self.sent.items c.self.inside.complete
    (deliveries c.deref.result.now c.self.inside.pumped c.pump-end.result.progress.whole c.pump-end.result.progress.some) c.pump-end.ensures.members.as_many c.self.invariant.reached (whole_moves None (deliveries c.deref.result.now c.self.inside.pumped c.pump-end.result.progress.whole c.pump-end.result.progress.some) c.pump-end.result.torn c.self.inside.cluster.hosts.items c.pump-end.new.self.hosts.items c.self.inside.cluster.sent.items c.pump-end.new.self.sent.items refl (c.pump-end.ensures.come tt).fared))
