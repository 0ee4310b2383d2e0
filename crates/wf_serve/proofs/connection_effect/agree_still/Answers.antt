-- Nodes that are reached still publish one history, and respond alike.
use Rattle.wf_delivery.proofs.OneRun.{reachable_stays_reachable}
use Rattle.wf_serve.proofs.Agreed.{respond_alike}
use Rattle.wf_farm.specs.Nodes.{nodes_in}
use Rattle.wf_serve.proofs.connection_effect.agree_still.Goals as goal

pub returns : goal.returns
returns g c = λ before reached reachable.
    let now_reached = reachable_stays_reachable g.T.Tape before (nodes_in c.args.farm.now) reached reachable in
    let history = c.nodes_agree.ensures.agree now_reached in
    record {
      reached = now_reached;
      history = history;
      alike = respond_alike g.T.Tape c.equal_requests_have_equal_responses.ensures (nodes_in c.args.farm.now) history;
    }
