-- One delivery, or none: the farm is reached from the start.
use Rattle.std.proofs.Common.{ℕ, List, [], ◌∷◌, slice_get, subst, arith}
use Rattle.wf_farm.proofs.Common.{Definition, IsBeginning, DurableState, Event, deliver, HasDurableState, HistoriesGrow, TakesStep, ChangesByStep, Moves, MemoryFarm}
use Rattle.wf_model.specs.Table as table
use Rattle.wf_farm.proofs.Allocation.{may_step}
use Rattle.wf_farm.proofs.TriedEvents.{step_by_event}
use Rattle.wf_farm.proofs.TornRuns.{happened_moves, moves_some}
use Rattle.wf_farm.proofs.Worlds.{farm_moved, grown, sturdy_of}
use Rattle.wf_farm.proofs.pump.Farm+MemoryTape.deliver_by.Given as given
use Rattle.wf_farm.proofs.pump.Farm+MemoryTape.deliver_by.Goals as goal
use Rattle.wf_farm.proofs.pump.Farm+MemoryTape.deliver_by.Goals.{Joined-happened, in-Ok, in-Err}

-- one event, or none
moved : (g : given.Over) (c : Joined-happened g) → (events : List (Event Definition)) × Moves events c.self.inside.cluster.hosts.items c.self.inside.cluster.sent.items c.happen-happened.new.self.hosts.items c.happen-happened.new.self.sent.items
moved g c =
    let sturdy = sturdy_of c.self.inside.cluster.hosts.items c.self.invariant.members in
    moves_some (deliver c.args.node c.args.number) c.self.inside.cluster.hosts.items c.happen-happened.new.self.hosts.items c.self.inside.cluster.sent.items c.happen-happened.new.self.sent.items sturdy c.happen-happened.result c.happen-happened.ensures.tears c.happen-happened.ensures.done (c.happen-happened.ensures.err sturdy)

pub invariant_of-self : goal.invariant_of-self
invariant_of-self g c =
    farm_moved c.self.inside.cluster.hosts.items c.happen-happened.new.self.hosts.items c.self.inside.cluster.sent.items c.happen-happened.new.self.sent.items c.self.inside.pumped c.self.inside.pumped c.self.inside.complete (moved g c).0
    c.self.invariant c.happen-happened.ensures.members (moved g c).1 (omega (arith, c.self.invariant.pumped_within, c.happen-happened.ensures.grows))

pub returns-clause-done : goal.returns-clause-done
returns-clause-done g c =
    elim c.match-happened.branch [
      | in-Ok w ↦ rw w.result-is
          (subst (λ (farm : MemoryFarm). Moves ((deliver c.args.node c.args.number) ∷ []) farm.hosts farm.sent c.happen-happened.new.self.hosts.items c.happen-happened.new.self.sent.items) c.self.view_is
          (happened_moves (deliver c.args.node c.args.number) c.self.inside.cluster.hosts.items c.happen-happened.new.self.hosts.items c.self.inside.cluster.sent.items c.happen-happened.new.self.sent.items (sturdy_of c.self.inside.cluster.hosts.items c.self.invariant.members) _ w.in-Ok.ensures.tears w.in-Ok.ensures.done))
      | in-Err w ↦ rw w.result-is tt
    ]

pub returns-clause-taken : goal.returns-clause-taken
returns-clause-taken g c =
    elim c.match-happened.branch [
      | in-Ok w ↦ rw w.result-is tt
      | in-Err w ↦ rw w.result-is
          (subst (λ (farm : MemoryFarm). TakesStep c.args.node (table.Deliver c.args.number) farm.hosts farm.sent) c.self.view_is
          (may_step c.self.inside.cluster.hosts.items c.self.inside.cluster.sent.items c.args.node (table.Deliver c.args.number) w.in-Err.ensures.may))
    ]

pub returns-clause-idle : goal.returns-clause-idle
returns-clause-idle g c =
    subst (λ (farm : MemoryFarm). ChangesByStep c.args.node (table.Deliver c.args.number) farm.hosts farm.sent c.args.carrier.now c.happen-happened.new.carrier) c.self.view_is
    (step_by_event c.self.inside.cluster.hosts.items c.self.inside.cluster.sent.items c.args.carrier.now c.happen-happened.new.carrier c.args.node (table.Deliver c.args.number) c.happen-happened.ensures.idle)

pub returns-clause-grows : goal.returns-clause-grows
unfolding HistoriesGrow
returns-clause-grows g c =
    subst (λ (farm : MemoryFarm). (i : ℕ) (old new : DurableState Definition) → HasDurableState (slice_get farm.hosts i) old → HasDurableState (slice_get c.happen-happened.new.self.hosts.items i) new → IsBeginning old.history new.history) c.self.view_is
    (grown c.self.inside.cluster.hosts.items c.happen-happened.new.self.hosts.items c.self.inside.cluster.sent.items c.happen-happened.new.self.sent.items c.self.inside.complete
    (moved g c).0 c.happen-happened.ensures.members.as_many c.self.invariant.reached (moved g c).1)
