use Rattle.std.proofs.Common.{◌≡◌, ◌+◌, ◌<◌, map, take, refl, sym, subst, rules, arith}
use Rattle.std.specs.Prelude.{if◌then◌else◌, is_some}
use Rattle.wf_codec.specs.Message.{view}
use Rattle.wf_wire.specs.Offer.{AreOffered, AreTallied}
use Rattle.wf_wire.specs.declared.sending.PostCount.{PostCount}
use Rattle.wf_wire.proofs.Offers.{offered_more, one_if, one_more_seen, some_still, tallied_dropped, tallied_none, tallied_put, tallied_up_to}
use Rattle.wf_wire.proofs.sending.offer_all.Goals.{then-offer, else-offer}
use Rattle.wf_wire.proofs.sending.offer_all.Goals as goal

pub loop-message-init : goal.loop-message-init
unfolding AreOffered
loop-message-init c = (refl, tallied_none c.args.outbox.now)

pub loop-message-preserved : goal.loop-message-preserved
loop-message-preserved c =
    let i = c.loop-message.message-index in
    let messages = c.args.messages.now in
    let seen = sym (one_more_seen view messages i c.message-item.result c.loop-message-test.true c.message-item.is) in
    let still = some_still _ _ _ c.loop-message.invariant.0 in
    let few = tallied_up_to view messages i _ _ _ _ c.loop-message.invariant.1 in
    let bound : i + 1 < 18446744073709551616 = search rules in (
      subst (λ l. AreOffered l c.args.outbox.now c.offer.new.outbox) seen
          (offered_more (view c.message-item.result) (map view (take i messages)) c.offer.result c.args.outbox.now c.loop-message.outbox c.offer.new.outbox c.loop-message.invariant.0 c.offer.ensures),
      elim c.if-offer.branch [
        | then-offer w ↦
            let one : w.from.result ≡ (if is_some c.loop-message.outbox then 1 else 0) = search rules in
            let put : w.saturating_add.result ≡ c.loop-message.count.put + w.from.result = omega (arith, w.saturating_add.ensures, few, bound, one, one_if (is_some c.loop-message.outbox)) in
            subst (λ (n : PostCount). AreTallied n.put n.dropped (map view (take (i + 1) messages)) c.args.outbox.now c.offer.new.outbox) (sym w.count-is)
            (subst (λ l. AreTallied w.saturating_add.result c.loop-message.count.dropped l c.args.outbox.now c.offer.new.outbox) seen
            (tallied_put (view c.message-item.result) (map view (take i messages)) c.args.outbox.now c.loop-message.outbox c.offer.new.outbox c.loop-message.count.put c.loop-message.count.dropped
            w.from.result w.saturating_add.result still w.if-offer.ensures c.loop-message.invariant.1 one put))
        | else-offer w ↦
            let n = w.saturating_add-else-offer in
            let dropped : n.result ≡ c.loop-message.count.dropped + 1 = omega (arith, n.ensures, few, bound) in
            subst (λ (n : PostCount). AreTallied n.put n.dropped (map view (take (i + 1) messages)) c.args.outbox.now c.offer.new.outbox) (sym w.count-is)
            (subst (λ l. AreTallied c.loop-message.count.put n.result l c.args.outbox.now c.offer.new.outbox) seen
            (tallied_dropped (view c.message-item.result) (map view (take i messages)) c.args.outbox.now c.loop-message.outbox c.offer.new.outbox c.loop-message.count.put c.loop-message.count.dropped
            n.result still w.if-offer.ensures c.loop-message.invariant.1 dropped))
      ],
    )
