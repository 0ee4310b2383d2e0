use Rattle.std.proofs.Common.{List, map, subst}
use Rattle.wf_codec.specs.Message.{view}
use Rattle.wf_codec.specs.declared.message.Message as code
use Rattle.wf_wire.specs.Offer.{AreOffered}
use Rattle.wf_wire.proofs.Offers.{first_still}
use Rattle.wf_wire.proofs.Sent.{returned_more, sent_offered}
use Rattle.wf_wire.proofs.to_peer.ToPeer.post.Goals as goal

pub invariant_of-self : goal.invariant_of-self
invariant_of-self g c =
    let self = c.args.self.now in
    let offered = subst (λ (l : List code.Message). AreOffered (map view l) self.outbox c.offer_all.new.outbox) c.messages.ensures c.offer_all.ensures.offered in
    record {
      greets = self.greets;
      sent = sent_offered (g.C.Connection.sent self.connection) self.greeting _ self.outbox c.offer_all.new.outbox offered self.sent;
      first = first_still _ _ self.outbox c.offer_all.new.outbox offered self.first;
      returned = returned_more self.posts.items c.and-self.result.items c.args.post.now self.outbox c.offer_all.new.outbox c.and-self.ensures c.args.post.now.among offered self.returned;
    }
