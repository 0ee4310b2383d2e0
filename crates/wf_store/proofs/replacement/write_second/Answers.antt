-- The second file has the bytes, and nothing else has changed.
use Rattle.wf_store.proofs.Folders.{make_kept, append_kept, kept_on, kept_images, second_written}
use Rattle.wf_store.proofs.Turns.{passes_one, passes_both, counted_on}
use Rattle.wf_disk.specs.Folder.{MayLeave}
use Rattle.wf_disk.specs.Call.{error_of}
use Rattle.wf_store.proofs.replacement.write_second.Goals as goal

pub returns-in-Ok-clause-ok : goal.returns-in-Ok-clause-ok
returns-in-Ok-clause-ok g c = λ durable. second_written c.args.bytes.now (g.D.Disk.folder c.args.disk.now) (g.D.Disk.folder c.make.new.self) (g.D.Disk.folder c.append.new.self) c.append.result (c.in-Ok.ensures.leaves durable).1 (c.append.ensures.leaves durable)

pub returns-in-Ok-clause-kept : goal.returns-in-Ok-clause-kept
returns-in-Ok-clause-kept g c = λ durable. (kept_on (g.D.Disk.folder c.args.disk.now) (g.D.Disk.folder c.make.new.self) (g.D.Disk.folder c.append.new.self) (make_kept (g.D.Disk.folder c.args.disk.now) (g.D.Disk.folder c.make.new.self) (error_of c.make.result) (c.make.ensures.leaves durable)) (append_kept c.args.bytes.now (g.D.Disk.folder c.make.new.self) (g.D.Disk.folder c.append.new.self) (error_of c.append.result) (c.append.ensures.leaves durable)))

pub returns-in-Ok-clause-passes : goal.returns-in-Ok-clause-passes
returns-in-Ok-clause-passes g c = λ durable.
    passes_both g.D.Disk (MayLeave (g.D.Disk.folder c.args.disk.now)) c.args.disk.now c.make.new.self c.append.new.self (g.met.D.Disk.nested durable c.append.new.self)
    (passes_one g.D.Disk (MayLeave (g.D.Disk.folder c.args.disk.now)) c.args.disk.now c.make.new.self (c.make.ensures.time durable) (c.make.ensures.inside durable) (λ image was. was) (kept_images (g.D.Disk.folder c.args.disk.now) (g.D.Disk.folder c.make.new.self) (make_kept (g.D.Disk.folder c.args.disk.now) (g.D.Disk.folder c.make.new.self) (error_of c.make.result) (c.make.ensures.leaves durable))))
    (passes_one g.D.Disk (MayLeave (g.D.Disk.folder c.args.disk.now)) c.make.new.self c.append.new.self (c.append.ensures.time durable) (c.append.ensures.inside durable) (kept_images (g.D.Disk.folder c.args.disk.now) (g.D.Disk.folder c.make.new.self) (make_kept (g.D.Disk.folder c.args.disk.now) (g.D.Disk.folder c.make.new.self) (error_of c.make.result) (c.make.ensures.leaves durable))) (kept_images (g.D.Disk.folder c.args.disk.now) (g.D.Disk.folder c.append.new.self) (kept_on (g.D.Disk.folder c.args.disk.now) (g.D.Disk.folder c.make.new.self) (g.D.Disk.folder c.append.new.self) (make_kept (g.D.Disk.folder c.args.disk.now) (g.D.Disk.folder c.make.new.self) (error_of c.make.result) (c.make.ensures.leaves durable)) (append_kept c.args.bytes.now (g.D.Disk.folder c.make.new.self) (g.D.Disk.folder c.append.new.self) (error_of c.append.result) (c.append.ensures.leaves durable)))))

pub returns-in-Ok-clause-cause : goal.returns-in-Ok-clause-cause
returns-in-Ok-clause-cause g c = counted_on (g.D.Disk.failed c.args.disk.now) (g.D.Disk.failed c.make.new.self) (g.D.Disk.failed c.append.new.self) tt c.append.result c.in-Ok.ensures.cause c.append.ensures.cause

pub returns-in-Err-clause-kept : goal.returns-in-Err-clause-kept
returns-in-Err-clause-kept g c = λ durable. (make_kept (g.D.Disk.folder c.args.disk.now) (g.D.Disk.folder c.make.new.self) (error_of c.make.result) (c.make.ensures.leaves durable))

pub returns-in-Err-clause-passes : goal.returns-in-Err-clause-passes
returns-in-Err-clause-passes g c = λ durable. (passes_one g.D.Disk (MayLeave (g.D.Disk.folder c.args.disk.now)) c.args.disk.now c.make.new.self (c.make.ensures.time durable) (c.make.ensures.inside durable) (λ image was. was) (kept_images (g.D.Disk.folder c.args.disk.now) (g.D.Disk.folder c.make.new.self) (make_kept (g.D.Disk.folder c.args.disk.now) (g.D.Disk.folder c.make.new.self) (error_of c.make.result) (c.make.ensures.leaves durable))))
