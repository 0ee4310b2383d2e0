-- The nodes that were opened are those that are served.
use Rattle.std.proofs.Common.{◌∙◌}
use Rattle.wf_farm.specs.Nodes.{nodes_in}
use Rattle.wf_farm.specs.NodesTheorems.{length-nodes}
use Rattle.wf_serve.proofs.Serves.{never_started, not_served, served_so, started_so}
use Rattle.wf_serve.proofs.port_listener.serve_folder.Goals as goal

pub returns-in-Ok-clause-served : goal.returns-in-Ok-clause-served
returns-in-Ok-clause-served g c =
    let farm = c.in-Ok.farm in
    served_so _ c.args.service (nodes_in farm) (nodes_in c.serve_nodes-outcome.new.farm) c.serve_nodes-outcome.result (length-nodes farm.hosts ∙ c.in-Ok.ensures.size) c.in-Ok.ensures.read c.serve_nodes-outcome.ensures.served

pub returns-in-Ok-clause-started : goal.returns-in-Ok-clause-started
returns-in-Ok-clause-started g c = started_so c.args.service.nodes _ _ c.serve_nodes-outcome.result c.in-Ok.ensures.started

pub returns-in-Ok-clause-left : goal.returns-in-Ok-clause-left
returns-in-Ok-clause-left g c = not_served c.args.service.nodes _ _ c.serve_nodes-outcome.result c.in-Ok.ensures.started

pub returns-in-Err-clause-left : goal.returns-in-Err-clause-left
returns-in-Err-clause-left g c = never_started c.args.service.nodes c.in-Err.cause _ _ c.fault.result c.in-Err.ensures.rejected
