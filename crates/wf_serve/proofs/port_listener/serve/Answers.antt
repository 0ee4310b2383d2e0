-- New nodes in memory were served, or nodes on tapes in files.
use Rattle.std.proofs.Common.{◌∙◌}
use Rattle.wf_delivery.proofs.OneRun.{fresh_are_reachable}
use Rattle.wf_farm.specs.Nodes.{nodes_in}
use Rattle.wf_farm.specs.NodesTheorems.{length-nodes}
use Rattle.wf_serve.proofs.Serves.{served_in_memory}
use Rattle.wf_serve.proofs.port_listener.serve.Goals as goal

pub returns-in-Ok-new-clause-served : goal.returns-in-Ok-new-clause-served
returns-in-Ok-new-clause-served g c =
    let farm = c.in-Ok-new.farm in
    served_in_memory _ _ c.args.service (nodes_in farm) (nodes_in c.serve_nodes.new.farm) c.serve_nodes.result c.in-None.is (length-nodes farm.hosts ∙ c.in-Ok-new.ensures.size)
    c.in-Ok-new.ensures.new (fresh_are_reachable _ (nodes_in farm) c.in-Ok-new.ensures.new) c.serve_nodes.ensures.served
