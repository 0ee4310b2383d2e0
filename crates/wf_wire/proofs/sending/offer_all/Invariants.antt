use Rattle.std.proofs.Common.{map, take}
use Rattle.wf_codec.specs.Message.{view}
use Rattle.wf_wire.specs.Offer.{AreOffered, AreTallied}
use Rattle.wf_wire.proofs.sending.offer_all.Given as goal

abbrev pub invariant-loop-message : goal.invariant-loop-message
invariant-loop-message l =
    AreOffered (map view (take l.message-index l.messages)) l.fn.outbox l.outbox
    × AreTallied l.count.put l.count.dropped (map view (take l.message-index l.messages)) l.fn.outbox l.outbox
