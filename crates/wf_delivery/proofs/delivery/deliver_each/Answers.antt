-- The deliveries lead to what they left, and were made in order.
use Rattle.std.proofs.Common.{arith, length, refl, sym, subst}
use Rattle.wf_delivery.proofs.Common.{AreCounted}
use Rattle.wf_delivery.proofs.Deliveries.{come_done, handed_out}
use Rattle.wf_delivery.proofs.delivery.deliver_each.Goals as goal

pub returns-clause-delivered : goal.returns-clause-delivered
returns-clause-delivered g c =
    let r = c.deliver_rounds-lost in
    let nodes = g.E.Recipient.nodes in
    let counts = subst (λ k. AreCounted k 0 r.result.progress r.result.lost (length r.new.sent.items)) (sym (g.met.E.Recipient.as_many c.args.entries.now)) r.ensures.counts in
    come_done g.T.Tape (nodes c.args.entries.now) c.args.messages.items r.result.progress r.result.lost (nodes r.new.entries) r.new.sent.items r.ensures.come counts

pub returns-clause-handed : goal.returns-clause-handed
returns-clause-handed g c =
    let r = c.deliver_rounds-lost in
    let nodes = g.E.Recipient.nodes in
    let counts = subst (λ k. AreCounted k 0 r.result.progress r.result.lost (length r.new.sent.items)) (sym (g.met.E.Recipient.as_many c.args.entries.now)) r.ensures.counts in
    handed_out g.T.Tape (nodes c.args.entries.now) c.args.messages.items r.result.progress r.result.lost (nodes r.new.entries) r.new.sent.items r.ensures.come counts _ c.len.result (omega (arith, c.len.ensures)) refl
