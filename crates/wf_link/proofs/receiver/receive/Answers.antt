-- Each read's bytes arrive after those before; a loss has the cause of the last read.
use Rattle.std.proofs.Common.{◌∙◌, ◌+◌, ◌-◌, ◌≤◌, arith, refl}
use Rattle.wf_link.proofs.Arrived.{arrived_more, arrived_none}
use Rattle.wf_link.proofs.Causes.{fails_weaker, unread_later}
use Rattle.wf_link.proofs.receiver.receive.Goals as goal

pub loop-received-init : goal.loop-received-init
loop-received-init g c = (arrived_none (g.S.Source.left c.args.source.now) c.args.arrival.now, omega arith, refl)

pub loop-received-preserved : goal.loop-received-preserved
loop-received-preserved g c = (
  arrived_more c.loop-received.received c.in-Ok.some _ (g.S.Source.left c.args.source.now) (g.S.Source.left c.loop-received.source) (g.S.Source.left c.receive_some.new.source) c.args.arrival.now c.loop-received.arrival
      c.receive_some.new.arrival refl c.loop-received.invariant.0 c.in-Ok.ensures.arrives,
  omega (arith, c.in-Ok.ensures.within),
  c.in-Ok.ensures.cause ∙ c.loop-received.invariant.2,
)

pub returns-in-Err-clause-cause : goal.returns-in-Err-clause-cause
returns-in-Err-clause-cause g c =
    let within : c.loop-received.received + (c.args.count - c.loop-received.received) ≤ c.args.count = omega (arith, c.loop-received.invariant.1) in
    fails_weaker c.in-Err.fault (λ calm. calm ∙ c.loop-received.invariant.2)
    (unread_later c.loop-received.received (c.args.count - c.loop-received.received) c.args.count (g.S.Source.failures c.args.source.now) (g.S.Source.failures c.loop-received.source)
    (g.S.Source.failures c.receive_some.new.source) (g.S.Source.left c.args.source.now) (g.S.Source.left c.loop-received.source) (g.S.Source.left c.receive_some.new.source) c.args.arrival.now c.loop-received.arrival within
    c.loop-received.invariant.2 c.loop-received.invariant.0)
    c.in-Err.ensures.cause
