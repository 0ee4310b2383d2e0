-- The exchange is that the node at the index answers the publish, and the deliveries.
use Rattle.std.proofs.Common.{◌≡◌, length, arith}
use Rattle.wf_farm.specs.Exchange.{IsReadyFor}
use Rattle.wf_farm.specs.Nodes.{nodes_in}
use Rattle.wf_farm.specs.NodesTheorems.{all_run_on, length-nodes, runs_at}
use Rattle.wf_serve.proofs.Exchanged.{answered}
use Rattle.wf_serve.proofs.connection_effect.exchange_at.Goals as goal

pub exchange-requires-clause-runs : goal.exchange-requires-clause-runs
exchange-requires-clause-runs g c = runs_at c.args.farm.now.hosts c.args.node_index c.requires.running c.requires.within

pub exchange-requires-clause-ready : goal.exchange-requires-clause-ready
unfolding IsReadyFor
exchange-requires-clause-ready g c = λ node at. c.requires.publish

pub returns-clause-running : goal.returns-clause-running
returns-clause-running g c =
    let before = c.args.farm.now.hosts in
    let after = c.exchange.new.self.hosts in
    let long : length after ≡ length before = omega (arith, c.exchange.ensures.reachable.turn.as_many, length-nodes before, length-nodes after) in
    all_run_on before after long c.exchange.ensures.kept c.requires.running

pub returns-clause-answered : goal.returns-clause-answered
returns-clause-answered g c =
    answered g.T.Tape _ c.args.node_index _ _ (nodes_in c.args.farm.now) (nodes_in c.exchange.new.self) c.exchange.result c.exchange.ensures.exchange
    g.K.Sink _ _ _ _ (λ before after outputs is. is.2)
