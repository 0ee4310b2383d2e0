use Rattle.std.proofs.Common.{◌≡◌, ◌++◌, take}
use Rattle.wf_actor.specs.Backlog.{most_messages}
use Rattle.wf_actor.proofs.backlog.Backlog.extend.Given as goal

abbrev pub invariant-loop-message : goal.invariant-loop-message
invariant-loop-message g l = (l.self.messages.items ≡ take most_messages (l.fn.self.messages.items ++ l.yielded)) × (l.yielded ++ l.message-iterator.rest.items ≡ l.fn.messages.items)
