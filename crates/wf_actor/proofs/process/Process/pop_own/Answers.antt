use Rattle.std.proofs.Math.Logic.{∥∥₁_map}
use Rattle.std.specs.Option.{option_to_list}
use Rattle.wf_wire.specs.Post.{logged}
use Rattle.wf_actor.proofs.Dispatches.{fewer_left, first_reported}
use Rattle.wf_actor.proofs.process.Process.pop_own.Goals as goal

pub invariant_of-self : goal.invariant_of-self
invariant_of-self g c =
    let p = c.args.self.now in
    record {
      most = p.most;
      some_pictures = p.some_pictures;
      most_pictures = p.most_pictures;
      among = p.among;
      member = p.member;
      sent = ∥∥₁_map p.sent (λ s. fewer_left p.backlog.messages.items p.posts.messages.items (logged p.actor.emitted.items) s (option_to_list c.pop.result) c.pop.new.self.messages.items c.pop.ensures.items);
    }

pub returns-in-Some-clause-emitted : goal.returns-in-Some-clause-emitted
returns-in-Some-clause-emitted g c =
    let p = c.args.self.now in
    ∥∥₁_map p.sent (λ s. first_reported p.backlog.messages.items p.posts.messages.items (logged p.actor.emitted.items) s c.in-Some.message c.pop.new.self.messages.items c.in-Some.ensures.items)
