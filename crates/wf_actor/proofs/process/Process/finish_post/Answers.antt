use Rattle.std.proofs.Common.{◌≡◌, ◌∙◌, ◌∷◌, [], List, ap, refl, subst, sym}
use Rattle.std.proofs.Math.Logic.{∥∥₁_map}
use Rattle.wf_codec.specs.declared.message.Message.{Message}
use Rattle.wf_wire.specs.Post.{logged}
use Rattle.wf_wire.specs.declared.post.Post.{Post}
use Rattle.wf_actor.specs.Process.{IsFirstGiven}
use Rattle.wf_actor.specs.declared.process.Process.{Process}
use Rattle.wf_actor.proofs.Dispatches.{fewer_posts, post_given}
use Rattle.wf_actor.proofs.process.Process.finish_post.Goals as goal

pub invariant_of-self : goal.invariant_of-self
invariant_of-self g c =
    let p = c.args.self.now in
    record {
      most = p.most;
      some_pictures = p.some_pictures;
      most_pictures = p.most_pictures;
      among = p.among;
      member = p.member;
      sent = post_given p.backlog.messages.items p.posts.messages.items (logged p.actor.emitted.items) c.in-Some.post c.pop.new.self.messages.items c.extend.new.self.messages.items c.into_messages.result.items c.in-Some.ensures.items
          (ap (λ m. m.items) c.into_messages.ensures.same) c.extend.ensures c.in-Some.post.among p.sent;
    }

pub invariant_of-self-else-includes : goal.invariant_of-self-else-includes
invariant_of-self-else-includes g c =
    let p = c.args.self.now in
    record {
      most = p.most;
      some_pictures = p.some_pictures;
      most_pictures = p.most_pictures;
      among = p.among;
      member = p.member;
      sent = ∥∥₁_map p.sent (λ s. fewer_posts p.backlog.messages.items p.posts.messages.items (logged p.actor.emitted.items) s (c.in-Some.post ∷ []) c.pop.new.self.messages.items c.in-Some.ensures.items);
    }
