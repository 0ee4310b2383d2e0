use Rattle.std.proofs.Common.{◌∙◌, ◌∷◌, ℕ, List, ap, sym}
use Rattle.wf_power_cuts.proofs.Noting.{told_not_replacing, told_replacing}
use Rattle.wf_store.specs.Call.{replaced, unreplaced}
use Rattle.wf_power_cuts.proofs.folder.DiskStore.put.Goals as goal

pub invariant_of-self : goal.invariant_of-self
invariant_of-self c =
    told_replacing c.self.inside.calls c.and-self-inside-in-Ok.result c.self.inside.past.items c.and-self-inside.result.items c.self.inside.disks c.replace.new.self c.args.file c.deref.result.now c.self.invariant c.in-Ok.ensures.change c.in-Ok.ensures.alone c.and-self-inside.ensures (c.and-self-inside-in-Ok.ensures.all ∙ ap (λ (bytes : List ℕ). replaced c.args.file bytes ∷ c.self.inside.calls) (sym c.deref.ensures.value))

pub invariant_of-self-in-Err : goal.invariant_of-self-in-Err
invariant_of-self-in-Err c =
    told_not_replacing c.self.inside.calls c.and-self-inside-in-Err.result c.self.inside.past.items c.and-self-inside.result.items c.self.inside.disks c.replace.new.self c.args.file c.deref.result.now c.self.invariant c.in-Err.ensures.change c.and-self-inside.ensures (c.and-self-inside-in-Err.ensures.all ∙ ap (λ (bytes : List ℕ). unreplaced c.args.file bytes ∷ c.self.inside.calls) (sym c.deref.ensures.value))
