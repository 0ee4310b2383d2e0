use Rattle.std.proofs.Common.{◌<◌, sym, length, arith, rules}
use Rattle.std.specs.VecDeque.{deque_len, deque_capacity}
use Rattle.wf_actor.specs.Backlog.{most_messages}
use Rattle.wf_actor.proofs.Lists.{pushed, take_full}
use Rattle.wf_actor.proofs.backlog.Backlog.push.Goals as goal

pub returns-then-len-lt-BACKLOG_MESSAGES : goal.returns-then-len-lt-BACKLOG_MESSAGES
returns-then-len-lt-BACKLOG_MESSAGES g c =
    let q = c.args.self.now.messages in
    let fits : length q.items < most_messages = search rules in
    let less : deque_len q < deque_capacity q = search rules in
    pushed most_messages (deque_len q) (deque_capacity q) c.push_back.result q.items c.push_back.new.self.items c.args.message c.push_back.ensures.items c.push_back.ensures.full less fits

pub returns-else-len-lt-BACKLOG_MESSAGES : goal.returns-else-len-lt-BACKLOG_MESSAGES
returns-else-len-lt-BACKLOG_MESSAGES g c =
    sym (take_full most_messages c.args.self.now.messages.items c.args.message (search rules))
