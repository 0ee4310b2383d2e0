-- The node answered the publish: it is unchanged, or has proposed.
use Rattle.wf_edge.specs.RequestEffectTheorems.{served_moves}
use Rattle.wf_serve.proofs.Reachable.{moved_reaches_on, moved_sturdy}
use Rattle.wf_serve.proofs.node_request.PublishingNodeClient.ask.Goals as goal

pub returns-clause-reaches : goal.returns-clause-reaches
returns-clause-reaches g c =
    let one = c.publish_request-outcome in
    moved_reaches_on g.T.Tape c.args.node.now one.new.node one.result.messages
    (served_moves g.T.Tape g.K.Sink c.args.self.now.request.now c.args.self.now.sink.now one.new.sink c.args.node.now one.new.node one.result.messages one.result.outcome one.ensures)

pub returns-clause-sturdy : goal.returns-clause-sturdy
returns-clause-sturdy g c =
    let one = c.publish_request-outcome in
    moved_sturdy g.T.Tape c.args.node.now one.new.node one.result.messages
    (served_moves g.T.Tape g.K.Sink c.args.self.now.request.now c.args.self.now.sink.now one.new.sink c.args.node.now one.new.node one.result.messages one.result.outcome one.ensures)
