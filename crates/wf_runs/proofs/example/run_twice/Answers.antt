use Rattle.std.proofs.Common.{ap}
use Rattle.wf_disk.specs.Folder.{bytes_in}
use Rattle.wf_runs.proofs.Twice.{twice}
use Rattle.wf_runs.proofs.example.run_twice.Goals as goal

pub returns-in-Ok : goal.returns-in-Ok
returns-in-Ok c =
    twice _ c.in_ok-node.node c.step.new.self c.args.map c.in-Ok.messages.items c.node_0-id.result _ c.restart.result c.node_0-id.ensures (ap (λ d. bytes_in d.folder.own) c.new.ensures)
    c.in_ok-node.ensures (c.in-Ok.ensures.refused c.in_ok-node.ensures.runs) c.in-Ok.ensures.transition c.in-Ok.ensures.content c.restart.ensures
