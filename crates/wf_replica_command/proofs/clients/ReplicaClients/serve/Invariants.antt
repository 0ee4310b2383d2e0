-- The replica stays the same.
use Rattle.wf_replica.specs.Follower.{HasLearnedNothing}
use Rattle.wf_replica_command.proofs.clients.ReplicaClients.serve.Given as goal

abbrev pub invariant-loop : goal.invariant-loop
invariant-loop g l = HasLearnedNothing l.fn.self.renderer.follower l.self.renderer.follower
