use Rattle.std.proofs.Common.{◌∙◌, refl, sym, rules}
use Rattle.wf_wire.proofs.Arrival.{greeting_came, now_said, said_now}
use Rattle.wf_wire.proofs.from_peer.FromPeer.receive_greeting.Goals as goal

pub invariant_of-self-in-Ok-decode : goal.invariant_of-self-in-Ok-decode
invariant_of-self-in-Ok-decode g c =
    let self = c.args.self.now in
    let read = c.in-Ok.ensures.more in
    let front = c.in-Ok-decode.ensures.front in
    let whole = now_said _ _ _ _ _ _ c.greeting_length.result c.in-Ok-decode.said read (search rules) (search rules)
    (λ h more rest is e. c.greeting_length.ensures.within h more rest is (search rules)) c.in-Ok-decode.ensures.greeting front.0 (sym c.as_slice-in-Ok.ensures.value ∙ front.1) in
    record {
      taken_in = greeting_came _ _ _ _ _ _ _ _ _ c.requires.whole (self.unread c.requires.unsaid) read self.taken_in;
      is_said = said_now c.in-Ok-decode.said _ _ refl c.in-Ok-decode.ensures.greeting whole;
      unread = λ s. self.unread c.requires.unsaid;
      unbroken = self.unbroken;
      waiting = self.waiting;
    }
