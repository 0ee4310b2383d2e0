-- The nodes of the farm are in turn; if they are reached, they agree.
use Rattle.std.proofs.Common.{subst}
use Rattle.wf_farm.proofs.Common.{AnyPart, StandInTurn, AreReachable, nodes_in}
use Rattle.wf_farm.proofs.Nodes.{in_turn_of, reached_any}
use Rattle.wf_delivery.proofs.OneRun.{agree_reached}
use Rattle.wf_farm.proofs.farm.Farm.nodes_agree.Goals as goal

pub returns-clause-reached : goal.returns-clause-reached
returns-clause-reached g c = λ durable.
    subst (λ farm. AreReachable AnyPart (nodes_in farm)) c.self.view_is
    (reached_any g.T.Tape.durable g.T.Tape.images g.T.Tape.never_fails c.self.inside.cluster.hosts.items c.self.inside.cluster.sent.items c.self.inside.complete c.self.invariant.members durable (c.self.invariant.reached durable))

pub returns-clause-agree : goal.returns-clause-agree
returns-clause-agree g c = agree_reached (nodes_in c.args.self.now)

pub returns-clause-in_turn : goal.returns-clause-in_turn
returns-clause-in_turn g c =
    subst (λ farm. StandInTurn (nodes_in farm)) c.self.view_is (in_turn_of g.T.Tape.durable g.T.Tape.images g.T.Tape.never_fails c.self.inside.cluster.hosts.items c.self.invariant.members)
