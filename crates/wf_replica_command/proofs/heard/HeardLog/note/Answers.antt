use Rattle.wf_replica_command.proofs.Conversing.{one_more_heard_on}
use Rattle.wf_replica_command.proofs.heard.HeardLog.note.Goals as goal

pub invariant_of-self : goal.invariant_of-self
invariant_of-self g c = record {
  come = one_more_heard_on g.C.Connection c.args.self.now.connections.items c.and-self-2.result.items c.args.self.now.replies.items c.and-self.result.items c.args.connection.now c.args.replied.now c.args.reply.now c.args.asked.now
      c.and-self-2.ensures c.and-self.ensures c.args.self.now.come c.requires;
}
