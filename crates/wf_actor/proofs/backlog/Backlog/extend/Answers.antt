use Rattle.std.proofs.Common.{◌≡◌, sym, ap, ◌∙◌, take, append-nil, rules}
use Rattle.wf_actor.specs.Backlog.{most_messages}
use Rattle.wf_actor.proofs.Lists.{take_whole, cut_more, parts_more}
use Rattle.wf_actor.proofs.backlog.Backlog.extend.Goals as goal

pub loop-message-init : goal.loop-message-init
loop-message-init g c =
    let whole : c.into_iter-message-iterator.result.rest.items ≡ c.args.messages.items = search rules in
    (sym (ap (take most_messages) (append-nil c.args.self.now.messages.items) ∙ take_whole most_messages c.args.self.now.messages.items c.args.self.now.bounded), whole)

pub loop-message-preserved : goal.loop-message-preserved
loop-message-preserved g c = (
  cut_more most_messages c.args.self.now.messages.items c.loop-message.self.messages.items c.push.new.self.messages.items c.loop-message.yielded c.in-Some.message c.loop-message.invariant.0 c.push.ensures,
  parts_more c.args.messages.items c.loop-message.yielded c.loop-message.message-iterator.rest.items c.next.new.self.rest.items c.in-Some.message c.loop-message.invariant.1 c.in-Some.ensures.steps.0,
)
