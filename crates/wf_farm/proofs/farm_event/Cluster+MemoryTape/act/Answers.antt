-- A node that takes the step steps, or stops; otherwise nothing happens.
use Rattle.std.proofs.Common.{◌∙◌, IfOk, OnErr, length, None, Some, refl, slice_set, sym, ap, subst, true, false}
use Rattle.wf_farm.proofs.Common.{slice_get_read, numbered, Happened, MayAllocate, ChangesByEvent, Between, IsHappened, TearsAt, TearsOnly, acted, received_as}
use Rattle.wf_farm.proofs.Events.{ok_map, on_err, host_keeps}
use Rattle.wf_farm.proofs.Idle.{idle_happens}
use Rattle.wf_farm.proofs.Steps.{stops_member}
use Rattle.wf_farm.proofs.Taken.{before_happens, carrier_used, taken_may, tears_event}
use Rattle.wf_farm.proofs.TriedEvents.{same_by_event}
use Rattle.wf_farm.proofs.farm_event.Cluster+MemoryTape.act.Goals as goal

pub returns-in-Err-clause-done : goal.returns-in-Err-clause-done
returns-in-Err-clause-done g c = idle_happens c.args.self.now.hosts.items c.args.self.now.sent.items c.args.node (numbered c.args.action.now) c.in-Err.why c.args.crash c.in-Err.ensures.idle

pub returns-in-Err-clause-idle : goal.returns-in-Err-clause-idle
returns-in-Err-clause-idle g c = same_by_event c.args.self.now.hosts.items c.args.self.now.sent.items c.args.carrier.now c.args.carrier.now (acted c.args.crash c.args.node (numbered c.args.action.now)) refl

-- the whole step
pub returns-in-None-clause-done : goal.returns-in-None-clause-done
returns-in-None-clause-done g c = subst (λ e. IfOk c.give.result (λ what. Between (IsHappened (acted e c.args.node (numbered c.args.action.now)) what) c.args.self.now c.give.new.self)) (sym c.in-None.is) c.give.ensures.done

pub returns-in-None-clause-tears : goal.returns-in-None-clause-tears
returns-in-None-clause-tears g c =
    let hosts = c.args.self.now.hosts.items in
    let step = numbered c.args.action.now in
    subst (λ e. IfOk c.give.result (λ what. TearsOnly what.torn (acted e c.args.node step) hosts)) (sym c.in-None.is)
    (ok_map (λ (what : Happened). TearsAt what.torn c.args.node hosts) (λ (what : Happened). TearsOnly what.torn (received_as true c.args.node step) hosts) c.give.result
    (λ what tears. tears_event true c.args.node step what.torn hosts tears) c.give.ensures.tears)

pub returns-in-None-clause-may : goal.returns-in-None-clause-may
returns-in-None-clause-may g c =
    let hosts = c.args.self.now.hosts.items in
    let sent = c.args.self.now.sent.items in
    let taken = c.in-Ok.ensures.taken in
    subst (λ e. OnErr c.give.result (MayAllocate (acted e c.args.node (numbered c.args.action.now)) hosts sent)) (sym c.in-None.is)
    (on_err c.give.result (taken_may hosts sent c.args.node (numbered c.args.action.now) taken.input taken.given taken.there true))

pub returns-in-None-clause-idle : goal.returns-in-None-clause-idle
returns-in-None-clause-idle g c =
    let hosts = c.args.self.now.hosts.items in
    let sent = c.args.self.now.sent.items in
    let taken = c.in-Ok.ensures.taken in
    let step = numbered c.args.action.now in
    subst (λ e. ChangesByEvent (acted e c.args.node step) hosts sent c.args.carrier.now c.give.new.carrier) (sym c.in-None.is)
    (carrier_used (received_as true c.args.node step) hosts sent c.args.carrier.now c.give.new.carrier (taken_may hosts sent c.args.node step taken.input taken.given taken.there true))

-- a step whose messages are lost
pub returns-in-After-clause-done : goal.returns-in-After-clause-done
returns-in-After-clause-done g c =
    subst (λ e. IfOk c.give-in-After.result (λ what. Between (IsHappened (acted e c.args.node (numbered c.args.action.now)) what) c.args.self.now c.give-in-After.new.self)) (sym (c.in-Some.is ∙ ap Some c.in-After.is))
    c.give-in-After.ensures.done

pub returns-in-After-clause-tears : goal.returns-in-After-clause-tears
returns-in-After-clause-tears g c =
    let hosts = c.args.self.now.hosts.items in
    let step = numbered c.args.action.now in
    subst (λ e. IfOk c.give-in-After.result (λ what. TearsOnly what.torn (acted e c.args.node step) hosts)) (sym (c.in-Some.is ∙ ap Some c.in-After.is))
    (ok_map (λ (what : Happened). TearsAt what.torn c.args.node hosts) (λ (what : Happened). TearsOnly what.torn (received_as false c.args.node step) hosts) c.give-in-After.result
    (λ what tears. tears_event false c.args.node step what.torn hosts tears) c.give-in-After.ensures.tears)

pub returns-in-After-clause-may : goal.returns-in-After-clause-may
returns-in-After-clause-may g c =
    let hosts = c.args.self.now.hosts.items in
    let sent = c.args.self.now.sent.items in
    let taken = c.in-Ok.ensures.taken in
    subst (λ e. OnErr c.give-in-After.result (MayAllocate (acted e c.args.node (numbered c.args.action.now)) hosts sent)) (sym (c.in-Some.is ∙ ap Some c.in-After.is))
    (on_err c.give-in-After.result (taken_may hosts sent c.args.node (numbered c.args.action.now) taken.input taken.given taken.there false))

pub returns-in-After-clause-idle : goal.returns-in-After-clause-idle
returns-in-After-clause-idle g c =
    let hosts = c.args.self.now.hosts.items in
    let sent = c.args.self.now.sent.items in
    let taken = c.in-Ok.ensures.taken in
    let step = numbered c.args.action.now in
    subst (λ e. ChangesByEvent (acted e c.args.node step) hosts sent c.args.carrier.now c.give-in-After.new.carrier) (sym (c.in-Some.is ∙ ap Some c.in-After.is))
    (carrier_used (received_as false c.args.node step) hosts sent c.args.carrier.now c.give-in-After.new.carrier (taken_may hosts sent c.args.node step taken.input taken.given taken.there false))

-- a stop before the step
pub returns-in-Before-clause-done : goal.returns-in-Before-clause-done
returns-in-Before-clause-done g c =
    let hosts = c.args.self.now.hosts.items in
    let sent = c.args.self.now.sent.items in
    let taken = c.in-Ok.ensures.taken in
    let at = slice_get_read hosts (length hosts) c.args.node c.index_mut.result.now refl c.in-Ok.ensures.within c.index_mut.ensures.value in
    subst (λ e. IsHappened (acted e c.args.node (numbered c.args.action.now)) (record { why = None; torn = None }) hosts sent (slice_set hosts c.args.node c.stop.new.self) sent) (sym (c.in-Some.is ∙ ap Some c.in-Before.is))
    (before_happens hosts sent c.args.node (numbered c.args.action.now) taken.input taken.given taken.there c.index_mut.result.now c.stop.new.self at c.stop.ensures.stopped)

pub returns-in-Before-clause-idle : goal.returns-in-Before-clause-idle
returns-in-Before-clause-idle g c = same_by_event c.args.self.now.hosts.items c.args.self.now.sent.items c.args.carrier.now c.args.carrier.now (acted c.args.crash c.args.node (numbered c.args.action.now)) refl

pub returns-in-Before-clause-members : goal.returns-in-Before-clause-members
returns-in-Before-clause-members g c =
    let hosts = c.args.self.now.hosts.items in
    let at = slice_get_read hosts (length hosts) c.args.node c.index_mut.result.now refl c.in-Ok.ensures.within c.index_mut.ensures.value in
    host_keeps hosts c.args.node c.index_mut.result.now c.stop.new.self at (stops_member c.index_mut.result.now c.stop.new.self c.stop.ensures.stopped) c.stop.ensures.sturdy
