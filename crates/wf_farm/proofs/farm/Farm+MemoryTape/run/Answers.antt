-- Whatever has happened, the farm is reached from the start.
use Rattle.std.proofs.Common.{ℕ, None, map, slice_get, take, refl, subst, arith}
use Rattle.wf_farm.proofs.Common.{Definition, IsBeginning, DurableState, HasDurableState, HistoriesGrow, MayAllocateAt, view, MemoryFarm, Moves, ReportsWhy, last_rejected}
use Rattle.wf_farm.proofs.TornRuns.{whole_last, whole_moves}
use Rattle.wf_farm.proofs.Worlds.{farm_moved, grown}
use Rattle.wf_farm.proofs.farm.Farm+MemoryTape.run.Goals as goal

pub invariant_of-self : goal.invariant_of-self
invariant_of-self c =
    farm_moved c.self.inside.cluster.hosts.items c.run.new.self.hosts.items c.self.inside.cluster.sent.items c.run.new.self.sent.items c.self.inside.pumped c.self.inside.pumped c.self.inside.complete (map view c.args.events.now)
    c.self.invariant c.run.ensures.members (whole_moves None (map view c.args.events.now) c.in-Ok.field-0.torn c.self.inside.cluster.hosts.items c.run.new.self.hosts.items c.self.inside.cluster.sent.items c.run.new.self.sent.items refl c.in-Ok.ensures.done.fared) (omega (arith, c.self.invariant.pumped_within, c.run.ensures.grows))

pub invariant_of-self-in-Err : goal.invariant_of-self-in-Err
invariant_of-self-in-Err c =
    farm_moved c.self.inside.cluster.hosts.items c.run.new.self.hosts.items c.self.inside.cluster.sent.items c.run.new.self.sent.items c.self.inside.pumped c.self.inside.pumped c.self.inside.complete (take c.in-Err.done (map view c.args.events.now))
    c.self.invariant c.run.ensures.members (c.in-Err.ensures.part refl) (omega (arith, c.self.invariant.pumped_within, c.run.ensures.grows))

pub returns-in-Ok-clause-grows : goal.returns-in-Ok-clause-grows
unfolding HistoriesGrow
returns-in-Ok-clause-grows c =
    subst (λ (farm : MemoryFarm). (i : ℕ) (old new : DurableState Definition) → HasDurableState (slice_get farm.hosts i) old → HasDurableState (slice_get c.run.new.self.hosts.items i) new → IsBeginning old.history new.history) c.self.view_is
    (grown c.self.inside.cluster.hosts.items c.run.new.self.hosts.items c.self.inside.cluster.sent.items c.run.new.self.sent.items c.self.inside.complete
    (map view c.args.events.now) c.run.ensures.members.as_many c.self.invariant.reached (whole_moves None (map view c.args.events.now) c.in-Ok.field-0.torn c.self.inside.cluster.hosts.items c.run.new.self.hosts.items c.self.inside.cluster.sent.items c.run.new.self.sent.items refl c.in-Ok.ensures.done.fared))

pub returns-in-Err-clause-grows : goal.returns-in-Err-clause-grows
unfolding HistoriesGrow
returns-in-Err-clause-grows c =
    subst (λ (farm : MemoryFarm). (i : ℕ) (old new : DurableState Definition) → HasDurableState (slice_get farm.hosts i) old → HasDurableState (slice_get c.run.new.self.hosts.items i) new → IsBeginning old.history new.history) c.self.view_is
    (grown c.self.inside.cluster.hosts.items c.run.new.self.hosts.items c.self.inside.cluster.sent.items c.run.new.self.sent.items c.self.inside.complete
    (take c.in-Err.done (map view c.args.events.now)) c.run.ensures.members.as_many c.self.invariant.reached (c.in-Err.ensures.part refl))

pub returns-in-Err-clause-may : goal.returns-in-Err-clause-may
returns-in-Err-clause-may c = subst (λ (farm : MemoryFarm). MayAllocateAt c.in-Err.done (map view c.args.events.now) farm.hosts farm.sent) c.self.view_is (c.in-Err.ensures.may refl)

pub returns-in-Ok-clause-done : goal.returns-in-Ok-clause-done
returns-in-Ok-clause-done c =
    subst (λ (farm : MemoryFarm). Moves (map view c.args.events.now) farm.hosts farm.sent c.run.new.self.hosts.items c.run.new.self.sent.items) c.self.view_is
    (whole_moves None (map view c.args.events.now) c.in-Ok.field-0.torn c.self.inside.cluster.hosts.items c.run.new.self.hosts.items c.self.inside.cluster.sent.items c.run.new.self.sent.items refl c.in-Ok.ensures.done.fared)

pub returns-in-Ok-clause-refused : goal.returns-in-Ok-clause-refused
returns-in-Ok-clause-refused c =
    subst (λ (farm : MemoryFarm). ReportsWhy (λ w. last_rejected w (map view c.args.events.now)) c.in-Ok.field-0.why farm.hosts farm.sent) c.self.view_is
    (whole_last None (map view c.args.events.now) c.in-Ok.field-0.torn c.in-Ok.field-0.why c.self.inside.cluster.hosts.items c.run.new.self.hosts.items c.self.inside.cluster.sent.items c.run.new.self.sent.items refl c.in-Ok.ensures.done)
