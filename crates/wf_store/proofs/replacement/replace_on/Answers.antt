-- The own file is the new one, or the one from before.
use Rattle.std.proofs.Common.{◌≡◌, ◌⊎◌, inl, inr}
use Rattle.wf_store.proofs.Folders.{kept_images, whole_second, placed_synced}
use Rattle.wf_store.proofs.Turns.{passes_both, passes_weaker, counted_on}
use Rattle.wf_disk.specs.Folder.{MayLeave, IsLeftOf}
use Rattle.wf_store.proofs.replacement.replace_on.Goals as goal

pub returns-in-Ok-clause-ok : goal.returns-in-Ok-clause-ok
returns-in-Ok-clause-ok g c = λ durable. placed_synced c.args.bytes.now (g.D.Disk.folder c.put_second.new.disk) (g.D.Disk.folder c.place_second.new.disk) c.place_second.result (c.in-Ok.ensures.ok durable) (c.place_second.ensures.ok durable)

pub returns-in-Ok-clause-passes : goal.returns-in-Ok-clause-passes
returns-in-Ok-clause-passes g c = λ durable.
    passes_both g.D.Disk (λ image. (MayLeave (g.D.Disk.folder c.args.disk.now)) image ⊎ (image ≡ c.args.bytes.now)) c.args.disk.now c.put_second.new.disk c.place_second.new.disk (g.met.D.Disk.nested durable c.place_second.new.disk)
    (passes_weaker g.D.Disk (MayLeave (g.D.Disk.folder c.args.disk.now)) (λ image. (MayLeave (g.D.Disk.folder c.args.disk.now)) image ⊎ (image ≡ c.args.bytes.now)) c.args.disk.now c.put_second.new.disk (c.put_second.ensures.passes durable) (λ image was. inl was))
    (passes_weaker g.D.Disk (λ image. (MayLeave (g.D.Disk.folder c.put_second.new.disk)) image ⊎ IsLeftOf (g.D.Disk.folder c.put_second.new.disk).second image) (λ image. (MayLeave (g.D.Disk.folder c.args.disk.now)) image ⊎ (image ≡ c.args.bytes.now)) c.put_second.new.disk c.place_second.new.disk (c.place_second.ensures.passes durable)
    (λ image left. elim (whole_second (g.D.Disk.folder c.put_second.new.disk) c.args.bytes.now image (c.in-Ok.ensures.ok durable) left) [ inl was ↦ inl (kept_images (g.D.Disk.folder c.args.disk.now) (g.D.Disk.folder c.put_second.new.disk) (c.put_second.ensures.kept durable) image was) | inr is ↦ inr is ]))

pub returns-in-Ok-clause-cause : goal.returns-in-Ok-clause-cause
returns-in-Ok-clause-cause g c = counted_on (g.D.Disk.failed c.args.disk.now) (g.D.Disk.failed c.put_second.new.disk) (g.D.Disk.failed c.place_second.new.disk) tt c.place_second.result c.in-Ok.ensures.cause c.place_second.ensures.cause

pub returns-in-Err-clause-passes : goal.returns-in-Err-clause-passes
returns-in-Err-clause-passes g c = λ durable. passes_weaker g.D.Disk (MayLeave (g.D.Disk.folder c.args.disk.now)) (λ image. (MayLeave (g.D.Disk.folder c.args.disk.now)) image ⊎ (image ≡ c.args.bytes.now)) c.args.disk.now c.put_second.new.disk (c.put_second.ensures.passes durable) (λ image was. inl was)
