-- Who was answered stays, and the replica goes on.
use Rattle.wf_replica_command.proofs.Order.{still_heard}
use Rattle.wf_replica_command.proofs.clients.ReplicaClients.ask.Goals as goal

pub invariant_of-self : goal.invariant_of-self
invariant_of-self g c = record {
  answered = c.args.self.now.answered;
  in_order = still_heard g.T.Tape c.args.self.now.asked.items c.args.upstream.now c.follow.new.self c.args.self.now.renderer.follower c.follow.new.follower c.follow.ensures c.args.self.now.in_order;
}
