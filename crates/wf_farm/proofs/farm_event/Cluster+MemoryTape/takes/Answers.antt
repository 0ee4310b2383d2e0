-- Why a node doesn't take the step; otherwise it runs, the input is there, and the table doesn't
-- reject it.
use Rattle.std.proofs.Common.{◌≡◌, ◌∙◌, List, length, map, slice_get, None, Some, refl, sym, ap, subst}
use Rattle.wf_farm.proofs.Common.{ltb-false, ltb-true, slice_get_past, slice_get_read, numbered, input_of, MemoryHost, IsIdle}
use Rattle.wf_codec.specs.Message.{view as view_message}
use Rattle.wf_farm.proofs.Events.{member_at}
use Rattle.wf_farm.proofs.Idle.{absent_idle, denied_idle, is_taken, none_given, one_given, stopped_idle, unsent_idle}
use Rattle.wf_farm.proofs.farm_event.Cluster+MemoryTape.takes.Goals as goal

pub returns-in-None-clause-idle : goal.returns-in-None-clause-idle
returns-in-None-clause-idle c =
    let hosts = c.deref.result.now in
    let none = slice_get_past hosts c.args.node (ltb-false c.args.node (length hosts) (sym c.in-None.ensures.lookup.0)) in
    absent_idle c.args.self.now.hosts.items c.args.self.now.sent.items c.args.node (numbered c.args.action.now) (subst (λ (ps : List MemoryHost). slice_get ps c.args.node ≡ None) c.deref.ensures.value none)

pub returns-in-Stopped-clause-idle : goal.returns-in-Stopped-clause-idle
returns-in-Stopped-clause-idle c =
    let hosts = c.deref.result.now in
    let at = slice_get_read hosts (length hosts) c.args.node c.in-Some.host.now refl (ltb-true c.args.node (length hosts) (sym c.in-Some.ensures.lookup.0)) c.in-Some.ensures.lookup.1 in
    stopped_idle c.args.self.now.hosts.items c.args.self.now.sent.items c.args.node (numbered c.args.action.now) c.in-Stopped.field-0
    (subst (λ (ps : List MemoryHost). slice_get ps c.args.node ≡ Some c.in-Some.host.now) c.deref.ensures.value at ∙ ap Some c.in-Stopped.is)

pub returns-then-not-is_sent-clause-idle : goal.returns-then-not-is_sent-clause-idle
returns-then-not-is_sent-clause-idle c =
    unsent_idle c.args.self.now.hosts.items c.args.self.now.sent.items c.args.node (numbered c.args.action.now)
    (none_given (input_of (map view_message c.args.self.now.sent.items) (numbered c.args.action.now)) c.is_sent.result c.is_sent.ensures c.if-not-is_sent.true)

pub returns-in-Some-step_rejection-clause-idle : goal.returns-in-Some-step_rejection-clause-idle
returns-in-Some-step_rejection-clause-idle c =
    let hosts = c.deref.result.now in
    let there = slice_get_read hosts (length hosts) c.args.node c.in-Some.host.now refl (ltb-true c.args.node (length hosts) (sym c.in-Some.ensures.lookup.0)) c.in-Some.ensures.lookup.1 in
    let at = subst (λ (ps : List MemoryHost). slice_get ps c.args.node ≡ Some c.in-Some.host.now) c.deref.ensures.value there ∙ ap Some c.in-Running.is in
    let given = one_given (input_of (map view_message c.args.self.now.sent.items) (numbered c.args.action.now)) c.is_sent.result c.is_sent.ensures c.if-not-is_sent.false in
    let member = member_at c.args.self.now.hosts.items c.args.node _ c.requires.members at in
    subst (λ why. IsIdle c.args.node (numbered c.args.action.now) why c.args.self.now.hosts.items c.args.self.now.sent.items) (sym c.rejection_in.ensures)
    (denied_idle c.args.self.now.hosts.items c.args.self.now.sent.items c.args.node (numbered c.args.action.now) c.in-Running.running given.0 at given.1 c.in-Some-step_rejection.fault (c.in-Some-step_rejection.ensures member.2))

pub returns-in-None-step_rejection-clause-taken : goal.returns-in-None-step_rejection-clause-taken
returns-in-None-step_rejection-clause-taken c =
    let hosts = c.deref.result.now in
    let there = slice_get_read hosts (length hosts) c.args.node c.in-Some.host.now refl (ltb-true c.args.node (length hosts) (sym c.in-Some.ensures.lookup.0)) c.in-Some.ensures.lookup.1 in
    let at = subst (λ (ps : List MemoryHost). slice_get ps c.args.node ≡ Some c.in-Some.host.now) c.deref.ensures.value there ∙ ap Some c.in-Running.is in
    let given = one_given (input_of (map view_message c.args.self.now.sent.items) (numbered c.args.action.now)) c.is_sent.result c.is_sent.ensures c.if-not-is_sent.false in
    let member = member_at c.args.self.now.hosts.items c.args.node _ c.requires.members at in
    is_taken c.args.self.now.hosts.items c.args.self.now.sent.items c.args.node (numbered c.args.action.now) c.in-Running.running given.0 at given.1 member (c.in-None-step_rejection.ensures member.2)
