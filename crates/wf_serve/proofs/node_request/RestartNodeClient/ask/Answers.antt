-- A restart leads on.
use Rattle.wf_model.specs.Table.{Retry}
use Rattle.wf_serve.proofs.Reachable.{asked_reaches_on}
use Rattle.wf_serve.proofs.node_request.RestartNodeClient.ask.Goals as goal

pub returns-clause-reaches : goal.returns-clause-reaches
returns-clause-reaches g c = asked_reaches_on g.T.Tape c.args.node.now c.outputs.new.node c.outputs.result Retry tt c.outputs.ensures
