use Rattle.std.proofs.Common.{refl}
use Rattle.wf_power_cuts.proofs.DiskLemmas.{none_read}
use Rattle.wf_power_cuts.proofs.Noting.{told_quiet}
use Rattle.wf_power_cuts.proofs.folder.DiskStore.note.Goals as goal

pub invariant_of-self : goal.invariant_of-self
invariant_of-self c =
    told_quiet c.self.inside.calls c.and-self-inside-2.result c.self.inside.past.items c.and-self-inside.result.items c.self.inside.disks c.self.inside.disks c.args.kind c.self.invariant (none_read c.self.inside.disks c.self.inside.disks refl) c.requires
    c.and-self-inside.ensures c.and-self-inside-2.ensures.all
