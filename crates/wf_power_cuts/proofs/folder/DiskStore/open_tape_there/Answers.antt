use Rattle.wf_power_cuts.proofs.Noting.{told_opening_existing, told_unopened_existing}
use Rattle.wf_power_cuts.proofs.folder.DiskStore.open_tape_there.Goals as goal

pub invariant_of-self : goal.invariant_of-self
invariant_of-self c = told_opening_existing c.self.inside.calls c.and-self-inside-in-Ok.result c.self.inside.past.items c.and-self-inside.result.items c.self.inside.disks c.open.new.self c.args.file c.self.invariant c.in-Ok.ensures.others c.and-self-inside.ensures c.and-self-inside-in-Ok.ensures.all

pub invariant_of-self-in-Err : goal.invariant_of-self-in-Err
invariant_of-self-in-Err c = told_unopened_existing c.self.inside.calls c.and-self-inside-in-Err.result c.self.inside.past.items c.and-self-inside.result.items c.self.inside.disks c.open.new.self c.args.file c.self.invariant c.in-Err.ensures.change c.and-self-inside.ensures c.and-self-inside-in-Err.ensures.all
