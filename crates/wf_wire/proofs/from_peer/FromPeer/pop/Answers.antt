use Rattle.std.proofs.Common.{◌∙◌, [], ◌∷◌, ◌++◌, List, Option, Vec, ℕ, ap, subst}
use Rattle.std.specs.declared.alloc.Global.{Global}
use Rattle.wf_mail.specs.Receiver.{ReceiverState}
use Rattle.wf_peer.specs.declared.greeting.Greeting.{Greeting}
use Rattle.wf_wire.specs.FromPeer.{IsGreetedBy}
use Rattle.wf_codec.specs.Message.{view}
use Rattle.wf_wire.proofs.Arrival.{among_behind, came_by_then, come_from}
use Rattle.wf_wire.proofs.from_peer.FromPeer.pop.Goals as goal

pub invariant_of-self : goal.invariant_of-self
invariant_of-self g c = record {
  taken_in = c.args.self.now.taken_in;
  is_said = c.args.self.now.is_said;
  unread = c.args.self.now.unread;
  unbroken = c.args.self.now.unbroken;
  waiting = among_behind _ _ _ _ c.pop_front.ensures.items c.args.self.now.waiting;
}

pub invariant_of-result : goal.invariant_of-result
invariant_of-result g c =
    let self = c.args.self.now in
    record {
      come = come_from c.in-Some.said self.greeting self.receiver c.and.result.items _ _ _ c.always_reads.ensures.0
          (c.and.ensures ∙ ap (λ (l : List (Vec ℕ Global × ReceiverState)). l ++ (self.greeting, self.receiver) ∷ []) c.new.ensures)
          (subst (λ (s : Option Greeting). ∥ IsGreetedBy s self.greeting.items ∥₁) c.in-Some.is self.is_said) c.always_reads.ensures.1 c.in-Some-pop_front.ensures.items self.waiting;
    }

pub returns-in-Some-pop_front-clause-came : goal.returns-in-Some-pop_front-clause-came
returns-in-Some-pop_front-clause-came g c come =
    let self = c.args.self.now in
    came_by_then (g.C.Connection.came self.connection) self.greeting self.receiver self.is_whole c.in-Some.said.node c.and.result.items (view c.in-Some-pop_front.message)
    (c.and.ensures ∙ ap (λ (l : List (Vec ℕ Global × ReceiverState)). l ++ (self.greeting, self.receiver) ∷ []) c.new.ensures) self.taken_in come
