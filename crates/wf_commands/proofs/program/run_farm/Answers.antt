use Rattle.std.proofs.Common.{map}
use Rattle.wf_commands.proofs.Ended.{node_run}
use Rattle.wf_commands.proofs.program.run_farm.Goals as goal

pub returns-in-Ok-Node-clause-ended : goal.returns-in-Ok-Node-clause-ended
returns-in-Ok-Node-clause-ended g c =
    let asked = rw c.in-Ok-Node.field-0-is at c.in-Ok-Node.ensures.asked in
    node_run _ _ (map g.S.AsStr.text c.args.words.now) c.requires c.in-Ok-Node.command asked _ _ _ c.new-store.ensures c.run-ended.ensures c.report_node.ensures.status
