-- The event happened, or it was torn, and then no tape fails any more.
use Rattle.std.proofs.Common.{subst}
use Rattle.wf_farm.proofs.Common.{view, HappensAs, TearsOnly}
use Rattle.wf_farm.proofs.Events.{keep_twice}
use Rattle.wf_farm.proofs.TornRuns.{armed_on, fails_before, reported_whole, went_torn, went_whole}
use Rattle.wf_farm.proofs.Worlds.{sturdy_on}
use Rattle.wf_farm.proofs.event_run.Cluster+MemoryTape.go.Goals as goal

pub returns-in-None-clause-on : goal.returns-in-None-clause-on
returns-in-None-clause-on g c = went_whole c.args.watch.node c.args.number (view c.args.event.now) c.args.self.now.hosts.items c.happen.new.self.hosts.items c.args.self.now.sent.items c.happen.new.self.sent.items c.args.torn.now c.in-Ok.happened.torn c.in-None.is c.in-Ok.ensures.done.reaches

pub returns-in-None-clause-why : goal.returns-in-None-clause-why
returns-in-None-clause-why g c = λ none. reported_whole c.args.watch.node c.args.number (view c.args.event.now) c.args.self.now.hosts.items c.happen.new.self.hosts.items c.args.self.now.sent.items c.happen.new.self.sent.items c.args.torn.now c.in-Ok.happened.torn c.in-Ok.happened.why none c.in-None.is c.in-Ok.ensures.done.why

pub returns-in-None-clause-armed : goal.returns-in-None-clause-armed
returns-in-None-clause-armed g c = armed_on c.args.watch.node c.args.torn.now c.args.self.now.hosts.items c.happen.new.self.hosts.items c.happen.ensures.members c.requires.armed

pub returns-in-Some-clause-on : goal.returns-in-Some-clause-on
returns-in-Some-clause-on g c =
    went_torn c.args.watch.node c.args.number (view c.args.event.now) c.args.self.now.hosts.items c.disarm.new.self.hosts.items c.args.self.now.sent.items c.disarm.new.self.sent.items c.in-Some.kept c.args.torn.now c.happen.new.self.hosts.items c.happen.new.self.sent.items c.requires.armed (subst (λ t. TearsOnly t (view c.args.event.now) c.args.self.now.hosts.items) c.in-Some.is c.in-Ok.ensures.tears)
    (subst (λ t. HappensAs (view c.args.event.now) t c.args.self.now.hosts.items c.args.self.now.sent.items c.happen.new.self.hosts.items c.happen.new.self.sent.items) c.in-Some.is c.in-Ok.ensures.done.reaches) c.disarm.ensures.stays

pub returns-in-Some-clause-armed : goal.returns-in-Some-clause-armed
returns-in-Some-clause-armed g c =
    c.disarm.ensures.only (sturdy_on c.args.watch.node c.args.self.now.hosts.items c.happen.new.self.hosts.items c.happen.ensures.members (fails_before (view c.args.event.now) c.in-Some.kept c.args.self.now.hosts.items (subst (λ t. TearsOnly t (view c.args.event.now) c.args.self.now.hosts.items) c.in-Some.is c.in-Ok.ensures.tears) c.args.watch.node c.args.torn.now c.requires.armed))

pub returns-in-Some-clause-members : goal.returns-in-Some-clause-members
returns-in-Some-clause-members g c = keep_twice c.args.self.now.hosts.items c.happen.new.self.hosts.items c.disarm.new.self.hosts.items c.happen.ensures.members c.disarm.ensures.members
