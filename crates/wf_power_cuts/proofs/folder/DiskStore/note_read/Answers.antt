use Rattle.wf_store.specs.Call.{bytes_of}
use Rattle.wf_power_cuts.proofs.Noting.{told_reading}
use Rattle.wf_power_cuts.proofs.folder.DiskStore.note_read.Goals as goal

pub invariant_of-self : goal.invariant_of-self
invariant_of-self c =
    told_reading c.self.inside.calls c.and-self-inside-2.result c.self.inside.past.items c.and-self-inside.result.items c.self.inside.disks c.args.file (bytes_of c.args.found.now) c.self.invariant c.and-self-inside.ensures c.and-self-inside-2.ensures.all
