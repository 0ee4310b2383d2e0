use Rattle.wf_wire.specs.Post.{logged}
use Rattle.wf_actor.proofs.Receipt.{none_given}
use Rattle.wf_actor.proofs.Dispatches.{nothing_sent}
use Rattle.wf_actor.proofs.process.Process.assemble.Goals as goal

pub invariant_of-result : goal.invariant_of-result
invariant_of-result g c = record {
  most = c.requires.most;
  some_pictures = c.requires.some_pictures;
  most_pictures = c.requires.most_pictures;
  among = c.requires.among;
  member = c.requires.member;
  sent = ∣ nothing_sent c.args.parts.backlog.messages.items c.args.parts.posts.messages.items (logged c.args.actor.emitted.items) c.requires.backlog c.requires.posts ∣₁;
}
