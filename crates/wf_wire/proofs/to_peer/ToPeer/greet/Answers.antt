use Rattle.std.proofs.Common.{◌∙◌, ◌≤◌, ◌++◌, List, ℕ, ap, length, subst, sym, take}
use Rattle.wf_sockets.specs.Moved.{IsWithin}
use Rattle.wf_sockets.specs.declared.moved.Moved.{Moved}
use Rattle.wf_wire.specs.ToPeer.{IsGreetingOf, written_of}
use Rattle.wf_wire.proofs.Sent.{first_next, same_bytes, sent_next}
use Rattle.wf_wire.proofs.to_peer.ToPeer.greet.Goals as goal

pub invariant_of-self : goal.invariant_of-self
invariant_of-self g c =
    let self = c.args.self.now in
    let within = subst (λ (m : Moved). IsWithin (length c.rest.result.now) m) c.in-Bytes.is c.write.ensures.within in
    let same = same_bytes c.in-Bytes.count self.greeting c.advance.new.self c.advance.ensures in
    record {
      greets = subst (λ (b : List ℕ). ∥ IsGreetingOf b ∥₁) (sym same) self.greets;
      sent = sent_next (g.C.Connection.sent self.connection) (g.C.Connection.sent c.write.new.self) _ c.in-Bytes.count self.greeting c.advance.new.self c.advance.ensures
          (c.in-Bytes.ensures.sent ∙ ap (λ (b : List ℕ). g.C.Connection.sent self.connection ++ take c.in-Bytes.count b) c.rest.ensures) self.sent
          ∙ ap (λ (b : List ℕ). b ++ written_of self.outbox) (sym same);
      first = first_next c.in-Bytes.count self.outbox self.greeting c.advance.new.self c.advance.ensures (subst (λ (b : List ℕ). c.in-Bytes.count ≤ length b) c.rest.ensures within.1) within.0 self.first;
      returned = self.returned;
    }
