-- The greeting tells the folder something that counts.
use Rattle.wf_peer_connections.proofs.Joining.{ordered}
use Rattle.wf_peer_connections.proofs.peer_connections.PeerConnections.hear_as_joiner.Goals as goal

pub returns-in-Some-step_by : goal.returns-in-Some-step_by
returns-in-Some-step_by g c =
    ordered c.args.self.now.plan c.args.membership.now c.args.greeting.now c.in-Some.joiner c.in-Some-step_by.step c.args.self.now.order c.in-Some.is c.in-Some-step_by.ensures
