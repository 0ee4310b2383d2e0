-- The client that was answered is the next one.
use Rattle.wf_replica_command.proofs.Answers.{answered_by}
use Rattle.wf_replica_command.proofs.Order.{in_order_by}
use Rattle.wf_visitors.specs.Visitors.{responses_of}
use Rattle.wf_replica_command.proofs.clients.ReplicaClients.serve_one.Goals as goal

pub invariant_of-self-clause-answered : goal.invariant_of-self-clause-answered
invariant_of-self-clause-answered g c =
    answered_by g.T.Tape c.args.self.now.asked.items c.and-asked.result.items (responses_of c.args.self.now.visitors) (responses_of c.serve.new.self) c.args.self.now.renderer c.serve.new.server 0
    c.and-asked.ensures c.if-serve.ensures c.args.self.now.answered

pub invariant_of-self-clause-in_order : goal.invariant_of-self-clause-in_order
invariant_of-self-clause-in_order g c =
    in_order_by g.T.Tape c.args.self.now.asked.items c.and-asked.result.items (responses_of c.args.self.now.visitors) (responses_of c.serve.new.self) c.args.self.now.renderer c.serve.new.server 0
    c.and-asked.ensures c.if-serve.ensures c.args.self.now.in_order
