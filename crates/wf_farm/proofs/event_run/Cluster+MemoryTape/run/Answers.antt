-- One more event has happened; an error leaves the events so far.
use Rattle.std.proofs.Common.{◌+◌, length, map, refl, subst, arith}
use Rattle.wf_farm.proofs.Common.{slice_get_read, view, FailsOnly}
use Rattle.wf_farm.proofs.Events.{keep_twice, same_members}
use Rattle.wf_farm.proofs.TornRuns.{armed_watched, next_run, none_run, part_may, part_run}
use Rattle.wf_farm.proofs.event_run.Cluster+MemoryTape.run.Goals as goal

pub loop-done-init : goal.loop-done-init
loop-done-init g c = (none_run c.args.watch.node (map view c.args.events.now) c.args.self.now.hosts.items c.args.self.now.sent.items, c.requires.armed, same_members c.args.self.now.hosts.items, omega arith)

pub loop-done-preserved : goal.loop-done-preserved
loop-done-preserved g c =
    let at = slice_get_read c.args.events.now (length c.args.events.now) c.loop-done.done c.index-events-done.result refl (omega (arith, c.loop-done-test.true)) c.index-events-done.is in (
      next_run c.args.watch.node c.args.events.now c.loop-done.done (c.loop-done.done + 1) c.index-events-done.result c.args.self.now.hosts.items c.loop-done.self.hosts.items c.go.new.self.hosts.items c.args.self.now.sent.items c.loop-done.self.sent.items c.go.new.self.sent.items (omega arith) at
          c.loop-done.torn c.go.new.torn c.in-Ok.rejection c.loop-done.why c.loop-done.invariant.0 c.in-Ok.ensures.on (λ none. c.in-Ok.ensures.why none),
      c.in-Ok.ensures.armed,
      keep_twice c.args.self.now.hosts.items c.loop-done.self.hosts.items c.go.new.self.hosts.items c.loop-done.invariant.2 c.go.ensures.members,
      omega (arith, c.loop-done.invariant.3, c.go.ensures.grows),
    )

pub returns-in-Err-clause-part : goal.returns-in-Err-clause-part
returns-in-Err-clause-part g c = λ none.
    part_run c.args.watch.node none c.args.events.now c.loop-done.done c.loop-done.torn c.loop-done.why c.args.self.now.hosts.items c.loop-done.self.hosts.items c.go.new.self.hosts.items c.args.self.now.sent.items c.loop-done.self.sent.items c.go.new.self.sent.items c.loop-done.invariant.0 (c.in-Err.ensures.err (subst (λ w. FailsOnly w c.loop-done.self.hosts.items) none (armed_watched c.args.watch.node c.loop-done.torn c.loop-done.self.hosts.items c.loop-done.invariant.1)))

pub returns-in-Err-clause-may : goal.returns-in-Err-clause-may
returns-in-Err-clause-may g c = λ none.
    let at = slice_get_read c.args.events.now (length c.args.events.now) c.loop-done.done c.index-events-done.result refl (omega (arith, c.loop-done-test.true)) c.index-events-done.is in
    part_may c.args.watch.node none c.args.events.now c.loop-done.done c.loop-done.torn c.loop-done.why c.args.self.now.hosts.items c.loop-done.self.hosts.items c.go.new.self.hosts.items c.args.self.now.sent.items c.loop-done.self.sent.items c.go.new.self.sent.items c.loop-done.invariant.0 c.index-events-done.result at c.in-Err.ensures.may
