-- A step, a stop, a restart and a crash within a step are these events.
use Rattle.std.proofs.Common.{IfOk, OnErr, None, sym, subst, refl}
use Rattle.wf_farm.proofs.Common.{MayAllocate, ChangesByEvent, Between, view, IsHappened, TearsOnly}
use Rattle.wf_model.specs.World as world
use Rattle.wf_farm.proofs.TriedEvents.{plain_event, same_by_event}
use Rattle.wf_farm.proofs.farm_event.Cluster+MemoryTape.happen.Goals as goal

pub returns-in-Act-clause-done : goal.returns-in-Act-clause-done
returns-in-Act-clause-done g c = subst (λ e. IfOk c.act.result (λ what. Between (IsHappened (view e) what) c.args.self.now c.act.new.self)) (sym c.in-Act.is) c.act.ensures.done

pub returns-in-Act-clause-tears : goal.returns-in-Act-clause-tears
returns-in-Act-clause-tears g c = subst (λ e. IfOk c.act.result (λ what. TearsOnly what.torn (view e) c.args.self.now.hosts.items)) (sym c.in-Act.is) c.act.ensures.tears

pub returns-in-Act-clause-may : goal.returns-in-Act-clause-may
returns-in-Act-clause-may g c = subst (λ e. OnErr c.act.result (MayAllocate (view e) c.args.self.now.hosts.items c.args.self.now.sent.items)) (sym c.in-Act.is) c.act.ensures.may

pub returns-in-Act-clause-idle : goal.returns-in-Act-clause-idle
returns-in-Act-clause-idle g c =
    subst (λ e. ChangesByEvent (view e) c.args.self.now.hosts.items c.args.self.now.sent.items c.args.carrier.now c.act.new.carrier) (sym c.in-Act.is) c.act.ensures.idle

pub returns-in-Stop-clause-done : goal.returns-in-Stop-clause-done
returns-in-Stop-clause-done g c =
    subst (λ e. IsHappened (view e) (record { why = None; torn = None }) c.args.self.now.hosts.items c.args.self.now.sent.items c.stop.new.self.hosts.items c.stop.new.self.sent.items) (sym c.in-Stop.is)
    (plain_event c.args.self.now.hosts.items c.stop.new.self.hosts.items c.args.self.now.sent.items c.stop.new.self.sent.items (world.Stop c.in-Stop.node) c.stop.ensures.done)

pub returns-in-Stop-clause-idle : goal.returns-in-Stop-clause-idle
returns-in-Stop-clause-idle g c = same_by_event c.args.self.now.hosts.items c.args.self.now.sent.items c.args.carrier.now c.args.carrier.now (view c.args.event.now) refl

pub returns-in-Restart-clause-may : goal.returns-in-Restart-clause-may
returns-in-Restart-clause-may g c =
    subst (λ e. OnErr c.restart.result (MayAllocate (view e) c.args.self.now.hosts.items c.args.self.now.sent.items)) (sym c.in-Restart.is) c.restart.ensures.may

pub returns-in-Restart-clause-idle : goal.returns-in-Restart-clause-idle
returns-in-Restart-clause-idle g c = same_by_event c.args.self.now.hosts.items c.args.self.now.sent.items c.args.carrier.now c.args.carrier.now (view c.args.event.now) refl

pub returns-in-Torn-clause-done : goal.returns-in-Torn-clause-done
returns-in-Torn-clause-done g c = subst (λ e. IfOk c.act-in-Torn.result (λ what. Between (IsHappened (view e) what) c.args.self.now c.act-in-Torn.new.self)) (sym c.in-Torn.is) c.act-in-Torn.ensures.done

pub returns-in-Torn-clause-tears : goal.returns-in-Torn-clause-tears
returns-in-Torn-clause-tears g c = subst (λ e. IfOk c.act-in-Torn.result (λ what. TearsOnly what.torn (view e) c.args.self.now.hosts.items)) (sym c.in-Torn.is) c.act-in-Torn.ensures.tears

pub returns-in-Torn-clause-may : goal.returns-in-Torn-clause-may
returns-in-Torn-clause-may g c = subst (λ e. OnErr c.act-in-Torn.result (MayAllocate (view e) c.args.self.now.hosts.items c.args.self.now.sent.items)) (sym c.in-Torn.is) c.act-in-Torn.ensures.may

pub returns-in-Torn-clause-idle : goal.returns-in-Torn-clause-idle
returns-in-Torn-clause-idle g c =
    subst (λ e. ChangesByEvent (view e) c.args.self.now.hosts.items c.args.self.now.sent.items c.args.carrier.now c.act-in-Torn.new.carrier) (sym c.in-Torn.is) c.act-in-Torn.ensures.idle
