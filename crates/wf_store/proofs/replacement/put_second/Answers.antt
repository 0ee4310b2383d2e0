-- The second file has the bytes, all of them synced, and nothing else has changed.
use Rattle.wf_store.proofs.Folders.{sync_kept, kept_on, kept_images, second_synced}
use Rattle.wf_store.proofs.Turns.{passes_one, passes_both, counted_on}
use Rattle.wf_disk.specs.Folder.{MayLeave}
use Rattle.wf_disk.specs.Call.{error_of}
use Rattle.wf_store.proofs.replacement.put_second.Goals as goal

pub returns-in-Ok-clause-ok : goal.returns-in-Ok-clause-ok
returns-in-Ok-clause-ok g c = λ durable. second_synced c.args.bytes.now (g.D.Disk.folder c.write_second.new.disk) (g.D.Disk.folder c.sync.new.self) c.sync.result (c.in-Ok.ensures.ok durable) (c.sync.ensures.leaves durable)

pub returns-in-Ok-clause-kept : goal.returns-in-Ok-clause-kept
returns-in-Ok-clause-kept g c = λ durable. (kept_on (g.D.Disk.folder c.args.disk.now) (g.D.Disk.folder c.write_second.new.disk) (g.D.Disk.folder c.sync.new.self) (c.write_second.ensures.kept durable) (sync_kept (g.D.Disk.folder c.write_second.new.disk) (g.D.Disk.folder c.sync.new.self) (error_of c.sync.result) (c.sync.ensures.leaves durable)))

pub returns-in-Ok-clause-passes : goal.returns-in-Ok-clause-passes
returns-in-Ok-clause-passes g c = λ durable.
    passes_both g.D.Disk (MayLeave (g.D.Disk.folder c.args.disk.now)) c.args.disk.now c.write_second.new.disk c.sync.new.self (g.met.D.Disk.nested durable c.sync.new.self) (c.write_second.ensures.passes durable)
    (passes_one g.D.Disk (MayLeave (g.D.Disk.folder c.args.disk.now)) c.write_second.new.disk c.sync.new.self (c.sync.ensures.time durable) (c.sync.ensures.inside durable) (kept_images (g.D.Disk.folder c.args.disk.now) (g.D.Disk.folder c.write_second.new.disk) (c.write_second.ensures.kept durable)) (kept_images (g.D.Disk.folder c.args.disk.now) (g.D.Disk.folder c.sync.new.self) (kept_on (g.D.Disk.folder c.args.disk.now) (g.D.Disk.folder c.write_second.new.disk) (g.D.Disk.folder c.sync.new.self) (c.write_second.ensures.kept durable) (sync_kept (g.D.Disk.folder c.write_second.new.disk) (g.D.Disk.folder c.sync.new.self) (error_of c.sync.result) (c.sync.ensures.leaves durable)))))

pub returns-in-Ok-clause-cause : goal.returns-in-Ok-clause-cause
returns-in-Ok-clause-cause g c = counted_on (g.D.Disk.failed c.args.disk.now) (g.D.Disk.failed c.write_second.new.disk) (g.D.Disk.failed c.sync.new.self) tt c.sync.result c.in-Ok.ensures.cause c.sync.ensures.cause
