use Rattle.std.proofs.Common.{◌∙◌, List, Option, Vec, ap, map, subst, sym}
use Rattle.std.specs.declared.alloc.Global.{Global}
use Rattle.wf_codec.specs.Message.{view}
use Rattle.wf_codec.specs.declared.message.Message as code
use Rattle.wf_mail.specs.Receiver.{came}
use Rattle.wf_wire.specs.FromPeer.{takes_more}
use Rattle.wf_wire.specs.Post.{AreAmong}
use Rattle.wf_wire.specs.Reception.{AreReadOn}
use Rattle.wf_wire.proofs.Arrival.{among_same, messages_came, none_came, still_open}
use Rattle.wf_wire.proofs.from_peer.FromPeer.receive_messages.Goals as goal

pub invariant_of-self : goal.invariant_of-self
invariant_of-self g c =
    let self = c.args.self.now in
    let none = subst (λ (m : Option (Vec code.Message Global)). AreReadOn m (g.C.Connection.came self.connection) self.receiver (g.C.Connection.came c.read_messages.new.connection) c.read_messages.new.receiver)
    c.in-Ok-None.field-0-is c.in-Ok-None.ensures.read in
    record {
      taken_in = none_came _ _ _ _ _ _ none.0 none.1 self.taken_in;
      is_said = self.is_said;
      unread = λ s. absurd (c.requires.said s);
      unbroken = λ w. ap takes_more none.1 ∙ self.unbroken w;
      waiting = among_same self.messages.items self.receiver c.read_messages.new.receiver (ap came none.1) self.waiting;
    }

pub invariant_of-self-in-Ok-Some : goal.invariant_of-self-in-Ok-Some
invariant_of-self-in-Ok-Some g c =
    let self = c.args.self.now in
    let some = subst (λ (m : Option (Vec code.Message Global)). AreReadOn m (g.C.Connection.came self.connection) self.receiver (g.C.Connection.came c.read_messages.new.connection) c.read_messages.new.receiver)
    c.in-Ok-Some.field-0-is c.in-Ok-Some.ensures.read in
    record {
      taken_in = messages_came _ _ _ _ _ _ _ _ c.requires.whole some self.taken_in;
      is_said = self.is_said;
      unread = λ s. absurd (c.requires.said s);
      unbroken = λ w. still_open some.more _ self.receiver c.read_messages.new.receiver some.received;
      waiting = subst (λ (l : List code.Message). ∥ AreAmong (map view l) (came c.read_messages.new.receiver) ∥₁) (sym c.from_vec.ensures.items) some.among;
    }
