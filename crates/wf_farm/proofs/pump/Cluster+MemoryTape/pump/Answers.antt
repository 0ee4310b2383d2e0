-- One more delivery.
use Rattle.std.proofs.Common.{◌+◌, ◌<◌, None, length, refl, sym, subst, arith}
use Rattle.wf_farm.specs.declared.progress.PumpEnd.TheVariants as end_case
use Rattle.wf_farm.proofs.Common.{KeepMembers, FailsOnly, HasFaredTo, IsArmed}
use Rattle.wf_farm.proofs.Events.{keep_twice, same_members}
use Rattle.wf_farm.proofs.TornRuns.{armed_on, armed_watched, failed_stands, pump_begins, pump_goes_on, pump_may, pump_stays}
use Rattle.wf_farm.proofs.pump.Cluster+MemoryTape.pump.Goals as goal

pub loop-progress-init : goal.loop-progress-init
loop-progress-init g c =
    subst (λ p. HasFaredTo c.args.watch.node c.args.targets.now c.args.first p None c.args.self.now.hosts.items c.args.self.now.sent.items c.args.self.now.hosts.items c.args.self.now.sent.items
    × IsArmed c.args.watch.node None c.args.self.now.hosts.items × KeepMembers c.args.self.now.hosts.items c.args.self.now.hosts.items) (sym c.start-progress.ensures)
    (pump_begins c.args.watch.node c.args.targets.now c.args.first c.args.self.now.hosts.items c.args.self.now.sent.items c.requires.some c.requires.within, c.requires.armed, same_members c.args.self.now.hosts.items)

pub loop-progress-preserved : goal.loop-progress-preserved
loop-progress-preserved g c =
    let left : c.args.first + c.loop-progress.progress.whole < length c.loop-progress.self.sent.items = omega (arith, c.if-number-len.false, c.len.ensures) in
    subst (λ p. HasFaredTo c.args.watch.node c.args.targets.now c.args.first p c.go-gone.new.torn c.args.self.now.hosts.items c.args.self.now.sent.items c.go-gone.new.self.hosts.items c.go-gone.new.self.sent.items
    × IsArmed c.args.watch.node c.go-gone.new.torn c.go-gone.new.self.hosts.items × KeepMembers c.args.self.now.hosts.items c.go-gone.new.self.hosts.items) (sym c.next-progress.ensures) (
      pump_goes_on c.args.watch.node c.args.targets.now c.args.first c.args.self.now.hosts.items c.args.self.now.sent.items c.loop-progress.progress c.loop-progress.torn c.go-gone.new.torn c.loop-progress.self.hosts.items c.go-gone.new.self.hosts.items
          c.loop-progress.self.sent.items c.go-gone.new.self.sent.items c.loop-progress.invariant.0 left (omega (arith, c.loop-progress-test.true)) c.in-Ok.ensures.on c.go-gone.ensures.grows,
      c.in-Ok.ensures.armed,
      keep_twice c.args.self.now.hosts.items c.loop-progress.self.hosts.items c.go-gone.new.self.hosts.items c.loop-progress.invariant.2 c.go-gone.ensures.members,
    )

pub returns-in-Err-clause-come : goal.returns-in-Err-clause-come
returns-in-Err-clause-come g c = λ stands.
    let none = failed_stands c.args.watch.node (end_case.Failed c.in-Err.fault) c.in-Err.fault refl stands in
    subst (λ t. HasFaredTo c.args.watch.node c.args.targets.now c.args.first c.loop-progress.progress t c.args.self.now.hosts.items c.args.self.now.sent.items c.go-gone.new.self.hosts.items c.go-gone.new.self.sent.items) (sym c.in-Err.ensures.same)
    (pump_stays c.args.watch.node c.args.targets.now c.args.first c.loop-progress.progress c.loop-progress.torn c.args.self.now.hosts.items c.loop-progress.self.hosts.items c.go-gone.new.self.hosts.items c.args.self.now.sent.items c.loop-progress.self.sent.items c.go-gone.new.self.sent.items none c.loop-progress.invariant.0 (c.in-Err.ensures.err (subst (λ w. FailsOnly w c.loop-progress.self.hosts.items) none (armed_watched c.args.watch.node c.loop-progress.torn c.loop-progress.self.hosts.items c.loop-progress.invariant.1))) c.go-gone.ensures.grows)

pub returns-in-Err-clause-may : goal.returns-in-Err-clause-may
returns-in-Err-clause-may g c = λ none.
    pump_may c.args.watch.node c.args.targets.now c.args.first c.loop-progress.progress c.loop-progress.torn c.args.self.now.hosts.items c.loop-progress.self.hosts.items c.go-gone.new.self.hosts.items c.args.self.now.sent.items c.loop-progress.self.sent.items c.go-gone.new.self.sent.items none c.loop-progress.invariant.0 c.in-Err.ensures.may

pub returns-in-Err-clause-armed : goal.returns-in-Err-clause-armed
returns-in-Err-clause-armed g c = λ stands.
    subst (λ t. IsArmed c.args.watch.node t c.go-gone.new.self.hosts.items) (sym c.in-Err.ensures.same) (armed_on c.args.watch.node c.loop-progress.torn c.loop-progress.self.hosts.items c.go-gone.new.self.hosts.items c.go-gone.ensures.members c.loop-progress.invariant.1)
