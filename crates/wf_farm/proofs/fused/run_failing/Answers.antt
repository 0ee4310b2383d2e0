-- Whatever has happened, the farm is reached from the start.
use Rattle.std.proofs.Common.{◌≡◌, ◌∙◌, None, Some, length, map, refl, ap, subst, arith, Vec}
use Rattle.wf_farm.proofs.Common.{Global, Message, Moves, MemoryFarm, view, FailsOnly, HaveFared, RunsOrTears, with_torn}
use Rattle.wf_farm.proofs.TornRuns.{armed_watched, laid_moves, node_step}
use Rattle.wf_farm.proofs.TriedEvents.{none_fails}
use Rattle.wf_farm.proofs.Worlds.{farm_run}
use Rattle.wf_farm.proofs.fused.run_failing.Goals as goal

sturdy : (c : goal.After-disarm) → FailsOnly None c.disarm.new.self.hosts.items
sturdy c = c.disarm.ensures.only (armed_watched (Some c.args.node) _ _ c.in-Ok.ensures.armed)

fared : (c : goal.After-disarm) → HaveFared (Some c.args.node) (map view c.args.events.now) c.in-Ok.field-0.torn c.arm.new.self.hosts.items c.arm.new.self.sent.items c.run.new.self.hosts.items c.run.new.self.sent.items
fared c = c.in-Ok.ensures.done.fared

moves : (c : goal.After-disarm) → Moves (with_torn (map view c.args.events.now) c.in-Ok.field-0.torn) c.farm.inside.cluster.hosts.items c.farm.inside.cluster.sent.items c.disarm.new.self.hosts.items c.disarm.new.self.sent.items
moves c = laid_moves (with_torn (map view c.args.events.now) c.in-Ok.field-0.torn) c.arm.new.self.hosts.items c.run.new.self.hosts.items c.disarm.new.self.hosts.items c.farm.inside.cluster.hosts.items c.farm.inside.cluster.sent.items c.arm.new.self.sent.items c.run.new.self.sent.items c.disarm.new.self.sent.items c.arm.ensures.stays (fared c).moves c.disarm.ensures.stays

long : (c : goal.After-disarm) → length c.disarm.new.self.hosts.items ≡ length c.farm.inside.cluster.hosts.items
long c = c.disarm.ensures.members.as_many ∙ c.run.ensures.members.as_many ∙ c.arm.ensures.size

pub invariant_of-farm : goal.invariant_of-farm
invariant_of-farm c =
    farm_run c.farm.inside.cluster.hosts.items c.disarm.new.self.hosts.items c.farm.inside.cluster.sent.items c.disarm.new.self.sent.items c.farm.inside.pumped c.farm.inside.pumped c.farm.inside.complete (with_torn (map view c.args.events.now) c.in-Ok.field-0.torn)
    c.farm.invariant (long c) (c.disarm.ensures.members.members (c.run.ensures.members.members c.arm.ensures.members)) (sturdy c) (moves c) (omega (arith, c.farm.invariant.pumped_within, ap (λ (v : Vec Message Global). length v.items) c.arm.ensures.sent, ap (λ (v : Vec Message Global). length v.items) c.disarm.ensures.sent, c.run.ensures.grows))

-- the farm afterwards
abbrev after : (c : goal.After-disarm) → MemoryFarm
after c = record { hosts = c.disarm.new.self.hosts.items; sent = c.disarm.new.self.sent.items; pumped = c.farm.inside.pumped; refused = c.in-Ok.field-0.why; complete = c.farm.inside.complete }

pub returns-in-Ok-clause-done : goal.returns-in-Ok-clause-done
returns-in-Ok-clause-done c =
    subst (λ (farm : MemoryFarm). RunsOrTears c.args.node (map view c.args.events.now) c.in-Ok.field-0.torn farm (after c)) c.farm.view_is
    (record { runs = moves c; step = node_step (Some c.args.node) c.args.node (map view c.args.events.now) c.in-Ok.field-0.torn refl (fared c).step })

pub returns-in-Ok-clause-fuse : goal.returns-in-Ok-clause-fuse
returns-in-Ok-clause-fuse c = none_fails c.disarm.new.self.hosts.items (sturdy c)
