-- A reply came, to the question that was open.
use Rattle.wf_replica_command.proofs.Hearing.{hears_reply}
use Rattle.wf_replica_command.proofs.upstream.Upstream.receive.Goals as goal

pub returns-in-Replied : goal.returns-in-Replied
returns-in-Replied g c =
    hears_reply c.args.self.now c.take_reply.new.self c.on_ready.new.heard.replies.items c.args.follower.now c.take_reply.new.follower c.in-Replied.reply
    (record { source = c.args.self.now.of; question = c.in-Replied.question }) c.take_reply.ensures.goes_on c.take_reply.ensures.reply c.in-Replied.ensures.logged c.take_reply.ensures.heard
