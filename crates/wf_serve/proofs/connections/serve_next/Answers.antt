-- Without a connection nothing happens. The effect of one is that of serving it, whatever was
-- received on it.
use Rattle.std.proofs.Common.{refl, inl, inr}
use Rattle.wf_delivery.proofs.OneRun.{nothing_is_reachable}
use Rattle.wf_farm.specs.Nodes.{nodes_in}
use Rattle.wf_serve.proofs.connections.serve_next.Goals as goal

pub returns-in_default-clause-answered : goal.returns-in_default-clause-answered
returns-in_default-clause-answered g c = inr refl

pub returns-in_default-clause-reachable : goal.returns-in_default-clause-reachable
returns-in_default-clause-reachable g c = nothing_is_reachable g.T.Tape (nodes_in c.args.farm.now)

pub returns-in_default-clause-room : goal.returns-in_default-clause-room
returns-in_default-clause-room g c = λ room have. have

pub returns-clause-answered : goal.returns-clause-answered
returns-clause-answered g c = inl (record {
  input = _;
  written = _;
  written_after = _;
  outcome = c.serve_connection-outcome.result.request;
  connection = c.serve_connection-outcome.ensures.connection;
})

pub returns-clause-reachable : goal.returns-clause-reachable
returns-clause-reachable g c = c.serve_connection-outcome.ensures.headline.reachable
