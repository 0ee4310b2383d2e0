use Rattle.wf_power_cuts.proofs.Noting.{told_new}
use Rattle.wf_power_cuts.proofs.folder.DiskStore.new.Goals as goal

pub invariant_of-result : goal.invariant_of-result
invariant_of-result c = told_new c.args.node c.new.result c.new-3.result c.new-2.result.items c.new.ensures c.new-3.ensures c.new-2.ensures
