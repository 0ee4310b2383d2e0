-- One more delivery.
use Rattle.std.proofs.Common.{◌+◌, ◌<◌, length, sym, subst, arith}
use Rattle.wf_delivery.proofs.Common.{ComeSoFar, AreChanged, Unchanged, AreCounted, counted, next}
use Rattle.wf_delivery.proofs.DeliveryCount.{none_counted, one_counted}
use Rattle.wf_delivery.proofs.Deliveries.{changed_twice, come_on, come_start}
use Rattle.wf_delivery.proofs.delivery.deliver_rounds.Goals as goal

pub loop-progress-init : goal.loop-progress-init
loop-progress-init g c =
    let was = c.args.entries.now in
    let nodes = g.E.Recipient.nodes in
    let first = c.args.sent.now.items in
    subst (λ p. ComeSoFar g.T.Tape (nodes was) first p 0 (nodes was) first × AreCounted (length was) 0 p 0 (length first) × AreChanged g.E.Recipient.keeps was was) (sym c.start-progress.ensures)
    (come_start g.T.Tape (nodes was) first, none_counted (length was) 0 (length first) c.requires.some (omega arith), Unchanged)

pub deliver_one-requires-clause-index : goal.deliver_one-requires-clause-index
deliver_one-requires-clause-index g c =
    omega (arith, c.loop-progress.invariant.1.part, c.loop-progress.invariant.0.turn.as_many, g.met.E.Recipient.as_many c.args.entries.now, g.met.E.Recipient.as_many c.loop-progress.entries)

pub deliver_one-requires-clause-in_turn : goal.deliver_one-requires-clause-in_turn
deliver_one-requires-clause-in_turn g c = c.loop-progress.invariant.0.turn.in_turn c.requires.in_turn

pub loop-progress-preserved : goal.loop-progress-preserved
loop-progress-preserved g c =
    let p = c.loop-progress.progress in
    let nodes = g.E.Recipient.nodes in
    let was = c.args.entries.now in
    let first = c.args.sent.now.items in
    let now = c.deliver_one.new.entries in
    let more = c.deliver_one.new.sent.items in
    let keeps = g.E.Recipient.keeps in
    let left : 0 + p.whole < length c.loop-progress.sent.items = omega (arith, c.if-number-len.false, c.len.ensures) in
    subst (λ k. ComeSoFar g.T.Tape (nodes was) first c.next-progress.result k (nodes now) more × AreCounted (length was) 0 c.next-progress.result k (length more) × AreChanged keeps was now) (sym c.count_lost-lost.ensures)
    (subst (λ q. ComeSoFar g.T.Tape (nodes was) first q (counted c.loop-progress.lost c.in-Ok.loses) (nodes now) more × AreCounted (length was) 0 q (counted c.loop-progress.lost c.in-Ok.loses) (length more)
    × AreChanged keeps was now) (sym c.next-progress.ensures) (
      subst (λ k. ComeSoFar g.T.Tape (nodes was) first (next k p) (counted c.loop-progress.lost c.in-Ok.loses) (nodes now) more) (g.met.E.Recipient.as_many was)
          (come_on g.T.Tape (nodes was) first p c.loop-progress.lost c.in-Ok.loses (nodes c.loop-progress.entries) (nodes now) c.loop-progress.sent.items more c.loop-progress.invariant.0 c.in-Ok.ensures.given.0 c.in-Ok.ensures.given.1),
      one_counted (length was) 0 p c.loop-progress.lost c.in-Ok.loses (length c.loop-progress.sent.items) (length more) c.loop-progress.invariant.1 left (omega (arith, c.loop-progress-test.true)) c.deliver_one.ensures.grows,
      changed_twice keeps was c.loop-progress.entries now c.loop-progress.invariant.2 c.deliver_one.ensures.changed,
    ))
