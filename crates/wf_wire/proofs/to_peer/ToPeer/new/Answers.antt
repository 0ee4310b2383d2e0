use Rattle.std.proofs.Common.{None, refl}
use Rattle.wf_wire.proofs.Sent.{returned_nothing, sent_nothing}
use Rattle.wf_wire.proofs.to_peer.ToPeer.new.Goals as goal

pub invariant_of-result : goal.invariant_of-result
invariant_of-result g c = record {
  greets = ∣ c.in-Some.ensures.greeting ∣₁;
  sent = sent_nothing (g.C.Connection.sent c.args.connection) c.in-Some.greeting None c.requires c.in-Some.ensures.whole refl;
  first = λ there. absurd cc;
  returned = returned_nothing c.new.result.items None refl;
}
