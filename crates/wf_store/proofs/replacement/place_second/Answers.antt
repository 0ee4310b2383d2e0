-- The second file has the own name, or it may have it.
use Rattle.std.proofs.Common.{◌⊎◌, inl}
use Rattle.wf_store.proofs.Folders.{second_placed, rename_images, names_images}
use Rattle.wf_store.proofs.Turns.{passes_one, passes_both, counted_on}
use Rattle.wf_disk.specs.Folder.{MayLeave, IsLeftOf}
use Rattle.wf_disk.specs.Call.{error_of}
use Rattle.wf_store.proofs.replacement.place_second.Goals as goal

pub returns-in-Ok-clause-ok : goal.returns-in-Ok-clause-ok
returns-in-Ok-clause-ok g c = λ durable. second_placed (g.D.Disk.folder c.args.disk.now) (g.D.Disk.folder c.rename.new.self) (g.D.Disk.folder c.sync_names.new.self) c.sync_names.result (c.in-Ok.ensures.leaves durable).1 (c.sync_names.ensures.leaves durable)

pub returns-in-Ok-clause-passes : goal.returns-in-Ok-clause-passes
returns-in-Ok-clause-passes g c = λ durable.
    passes_both g.D.Disk (λ image. (MayLeave (g.D.Disk.folder c.args.disk.now)) image ⊎ IsLeftOf (g.D.Disk.folder c.args.disk.now).second image) c.args.disk.now c.rename.new.self c.sync_names.new.self (g.met.D.Disk.nested durable c.sync_names.new.self)
    (passes_one g.D.Disk (λ image. (MayLeave (g.D.Disk.folder c.args.disk.now)) image ⊎ IsLeftOf (g.D.Disk.folder c.args.disk.now).second image) c.args.disk.now c.rename.new.self (c.rename.ensures.time durable) (c.rename.ensures.inside durable) (λ image was. inl was) (rename_images (g.D.Disk.folder c.args.disk.now) (g.D.Disk.folder c.rename.new.self) (error_of c.rename.result) (c.rename.ensures.leaves durable)))
    (passes_one g.D.Disk (λ image. (MayLeave (g.D.Disk.folder c.args.disk.now)) image ⊎ IsLeftOf (g.D.Disk.folder c.args.disk.now).second image) c.rename.new.self c.sync_names.new.self (c.sync_names.ensures.time durable) (c.sync_names.ensures.inside durable) (rename_images (g.D.Disk.folder c.args.disk.now) (g.D.Disk.folder c.rename.new.self) (error_of c.rename.result) (c.rename.ensures.leaves durable)) (λ image left. (rename_images (g.D.Disk.folder c.args.disk.now) (g.D.Disk.folder c.rename.new.self) (error_of c.rename.result) (c.rename.ensures.leaves durable)) image ((names_images (g.D.Disk.folder c.rename.new.self) (g.D.Disk.folder c.sync_names.new.self) (error_of c.sync_names.result) (c.sync_names.ensures.leaves durable)) image left)))

pub returns-in-Ok-clause-cause : goal.returns-in-Ok-clause-cause
returns-in-Ok-clause-cause g c = counted_on (g.D.Disk.failed c.args.disk.now) (g.D.Disk.failed c.rename.new.self) (g.D.Disk.failed c.sync_names.new.self) tt c.sync_names.result c.in-Ok.ensures.cause c.sync_names.ensures.cause

pub returns-in-Err-clause-passes : goal.returns-in-Err-clause-passes
returns-in-Err-clause-passes g c = λ durable. (passes_one g.D.Disk (λ image. (MayLeave (g.D.Disk.folder c.args.disk.now)) image ⊎ IsLeftOf (g.D.Disk.folder c.args.disk.now).second image) c.args.disk.now c.rename.new.self (c.rename.ensures.time durable) (c.rename.ensures.inside durable) (λ image was. inl was) (rename_images (g.D.Disk.folder c.args.disk.now) (g.D.Disk.folder c.rename.new.self) (error_of c.rename.result) (c.rename.ensures.leaves durable)))
