-- The node's entry after the step.
use Rattle.std.proofs.Common.{◌∙◌, length, None, Some, refl, sym, ap, subst, slice_set, ◌++◌}
use Rattle.wf_farm.proofs.Common.{slice_get_read, StayShown, IsHappened, KeepsSturdy, Stops, received_as}
use Rattle.wf_node.specs.Input.{view}
use Rattle.wf_farm.specs.declared.fate.Fate.TheVariants as fate
use Rattle.wf_farm.proofs.Events.{nothing_stays, host_keeps, host_stays}
use Rattle.wf_farm.proofs.Taken.{fares_there, goes_host, received_happens, lost_host, set_read, stopped_keeps, torn_step, torn_there, unheard_happens}
use Rattle.wf_farm.proofs.farm_event.Cluster+MemoryTape.step.Goals as goal

pub returns-then-is_err-clause-err : goal.returns-then-is_err-clause-err
returns-then-is_err-clause-err c = λ sturdy. subst (λ ms. StayShown c.args.self.now.hosts.items c.args.self.now.sent.items c.args.self.now.hosts.items ms) (sym c.reserve.ensures.items) (nothing_stays c.args.self.now.hosts.items c.args.self.now.sent.items c.args.node)

pub step-requires : goal.step-requires
step-requires c =
    let hosts = c.args.self.now.hosts.items in
    let at = slice_get_read hosts (length hosts) c.args.node c.index_mut.result.now refl c.requires.node c.index_mut.ensures.value in
    record { goes = goes_host hosts c.args.node (view c.args.input) c.index_mut.result.now c.requires.size at c.requires.goes }

-- a step that is heard
pub returns-then-received-clause-done : goal.returns-then-received-clause-done
returns-then-received-clause-done c = λ action given.
    let hosts = c.args.self.now.hosts.items in
    let sent = c.args.self.now.sent.items in
    let at = slice_get_read hosts (length hosts) c.args.node c.index_mut.result.now refl c.requires.node c.index_mut.ensures.value in
    let fares = fares_there hosts c.args.node (view c.args.input) c.index_mut.result.now c.step.new.self (fate.Done c.in-Done.outputs) c.requires.goes at c.in-Done.ensures.fares in
    subst (λ ms. IsHappened (received_as c.args.received c.args.node action) (record { why = None; torn = None }) hosts sent (slice_set hosts c.args.node c.step.new.self) ms)
    (sym (c.send.ensures ∙ ap (λ ms. ms ++ c.in-Done.outputs.items) c.reserve.ensures.items))
    (received_happens hosts sent c.args.node action (view c.args.input) given c.requires.goes c.args.received c.in-Done.outputs.items c.step.new.self c.if-received.true fares)

pub returns-then-received-clause-members : goal.returns-then-received-clause-members
returns-then-received-clause-members c =
    let hosts = c.args.self.now.hosts.items in
    let at = slice_get_read hosts (length hosts) c.args.node c.index_mut.result.now refl c.requires.node c.index_mut.ensures.value in
    host_keeps hosts c.args.node c.index_mut.result.now c.step.new.self at c.step.ensures.member c.step.ensures.sturdy

-- a step after which the node stops
pub returns-else-received-clause-done : goal.returns-else-received-clause-done
returns-else-received-clause-done c = λ action given.
    let hosts = c.args.self.now.hosts.items in
    let sent = c.args.self.now.sent.items in
    let at = slice_get_read hosts (length hosts) c.args.node c.index_mut.result.now refl c.requires.node c.index_mut.ensures.value in
    let fares = fares_there hosts c.args.node (view c.args.input) c.index_mut.result.now c.step.new.self (fate.Done c.in-Done.outputs) c.requires.goes at c.in-Done.ensures.fares in
    let is = set_read hosts c.args.node c.step.new.self c.index_mut-in-Done.result.now c.requires.node c.index_mut-in-Done.ensures.value in
    subst (λ ms. IsHappened (received_as c.args.received c.args.node action) (record { why = None; torn = None }) hosts sent (slice_set (slice_set hosts c.args.node c.step.new.self) c.args.node c.stop.new.self) ms)
    (sym c.reserve.ensures.items)
    (unheard_happens hosts sent c.args.node action (view c.args.input) given c.requires.goes c.args.received c.in-Done.outputs.items c.step.new.self c.stop.new.self c.if-received.false fares
    (subst (λ p. Stops p c.stop.new.self) is c.stop.ensures.stopped))

pub returns-else-received-clause-members : goal.returns-else-received-clause-members
returns-else-received-clause-members c =
    let hosts = c.args.self.now.hosts.items in
    let at = slice_get_read hosts (length hosts) c.args.node c.index_mut.result.now refl c.requires.node c.index_mut.ensures.value in
    let is = set_read hosts c.args.node c.step.new.self c.index_mut-in-Done.result.now c.requires.node c.index_mut-in-Done.ensures.value in
    stopped_keeps hosts c.args.node c.index_mut.result.now c.step.new.self c.stop.new.self at c.step.ensures.member c.step.ensures.sturdy
    (subst (λ p. Stops p c.stop.new.self) is c.stop.ensures.stopped) (subst (λ p. KeepsSturdy p c.stop.new.self) is c.stop.ensures.sturdy)

-- a step that was torn, or lost
pub returns-in-Torn-clause-done : goal.returns-in-Torn-clause-done
returns-in-Torn-clause-done c = λ action given.
    let hosts = c.args.self.now.hosts.items in
    let sent = c.args.self.now.sent.items in
    let at = slice_get_read hosts (length hosts) c.args.node c.index_mut.result.now refl c.requires.node c.index_mut.ensures.value in
    let fares = fares_there hosts c.args.node (view c.args.input) c.index_mut.result.now c.step.new.self (fate.Torn c.in-Torn.kept) c.requires.goes at c.in-Torn.ensures.fares in
    subst (λ ms. IsHappened (received_as c.args.received c.args.node action) (record { why = None; torn = Some c.in-Torn.kept }) hosts sent (slice_set hosts c.args.node c.step.new.self) ms) (sym c.reserve.ensures.items)
    (torn_step hosts sent c.args.node action (view c.args.input) given c.requires.goes c.in-Torn.kept c.step.new.self fares.1 c.args.received)

pub returns-in-Torn-clause-tears : goal.returns-in-Torn-clause-tears
returns-in-Torn-clause-tears c =
    let hosts = c.args.self.now.hosts.items in
    let at = slice_get_read hosts (length hosts) c.args.node c.index_mut.result.now refl c.requires.node c.index_mut.ensures.value in
    torn_there hosts c.args.node (view c.args.input) c.index_mut.result.now c.step.new.self c.in-Torn.kept at c.in-Torn.ensures.fares

pub returns-in-Torn-clause-members : goal.returns-in-Torn-clause-members
returns-in-Torn-clause-members c =
    let hosts = c.args.self.now.hosts.items in
    let at = slice_get_read hosts (length hosts) c.args.node c.index_mut.result.now refl c.requires.node c.index_mut.ensures.value in
    host_keeps hosts c.args.node c.index_mut.result.now c.step.new.self at c.step.ensures.member c.step.ensures.sturdy

pub returns-in-Lost-clause-err : goal.returns-in-Lost-clause-err
returns-in-Lost-clause-err c = λ sturdy.
    let hosts = c.args.self.now.hosts.items in
    let sent = c.args.self.now.sent.items in
    let at = slice_get_read hosts (length hosts) c.args.node c.index_mut.result.now refl c.requires.node c.index_mut.ensures.value in
    subst (λ ms. StayShown hosts sent (slice_set hosts c.args.node c.step.new.self) ms) (sym c.reserve.ensures.items)
    (host_stays hosts sent c.args.node c.index_mut.result.now c.step.new.self at
    (lost_host hosts c.args.node (view c.args.input) c.index_mut.result.now c.step.new.self at c.in-Lost.ensures.fares sturdy))

pub returns-in-Lost-clause-members : goal.returns-in-Lost-clause-members
returns-in-Lost-clause-members c =
    let hosts = c.args.self.now.hosts.items in
    let at = slice_get_read hosts (length hosts) c.args.node c.index_mut.result.now refl c.requires.node c.index_mut.ensures.value in
    host_keeps hosts c.args.node c.index_mut.result.now c.step.new.self at c.step.ensures.member c.step.ensures.sturdy
