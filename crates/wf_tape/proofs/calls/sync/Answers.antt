-- The own file is synced, and the names are.
use Rattle.std.proofs.Common.{ap, ◌∙◌}
use Rattle.wf_tape.proofs.Folders.{sync_done, sync_content, sync_earlier, sync_images}
use Rattle.wf_tape.proofs.Turns.{passes_one, passes_both, passes_weaker, counted_on}
use Rattle.wf_disk.specs.Folder.{MayLeave, bytes_in}
use Rattle.wf_disk.specs.Call.{error_of}
use Rattle.wf_tape.proofs.calls.sync.Goals as goal

pub returns-in-Ok-clause-ok : goal.returns-in-Ok-clause-ok
returns-in-Ok-clause-ok g c = λ durable.
    let left = c.in-Ok.ensures.leaves durable in
    sync_done (g.D.Disk.folder c.args.disk.now) (g.D.Disk.folder c.sync.new.self) (g.D.Disk.folder c.sync_names.new.disk) c.sync_names.result left.0 left.1 (c.sync_names.ensures.own durable)

pub returns-in-Ok-clause-names : goal.returns-in-Ok-clause-names
returns-in-Ok-clause-names g c = λ durable synced. c.sync_names.ensures.names durable (λ is. sync_earlier (g.D.Disk.folder c.args.disk.now) (g.D.Disk.folder c.sync.new.self) (error_of c.sync.result) (c.sync.ensures.leaves durable) ∙ synced is)

pub returns-in-Ok-clause-stay : goal.returns-in-Ok-clause-stay
returns-in-Ok-clause-stay g c = λ durable none. c.sync_names.ensures.stay durable (sync_earlier (g.D.Disk.folder c.args.disk.now) (g.D.Disk.folder c.sync.new.self) (error_of c.sync.result) (c.sync.ensures.leaves durable) ∙ none)

pub returns-in-Ok-clause-content : goal.returns-in-Ok-clause-content
returns-in-Ok-clause-content g c = λ durable. ap bytes_in (c.sync_names.ensures.own durable) ∙ sync_content (g.D.Disk.folder c.args.disk.now) (g.D.Disk.folder c.sync.new.self) (error_of c.sync.result) (c.sync.ensures.leaves durable)

pub returns-in-Ok-clause-images : goal.returns-in-Ok-clause-images
returns-in-Ok-clause-images g c = λ durable image left. (sync_images (g.D.Disk.folder c.args.disk.now) (g.D.Disk.folder c.sync.new.self) (error_of c.sync.result) (c.sync.ensures.leaves durable)) image (c.sync_names.ensures.images durable image left)

pub returns-in-Ok-clause-passes : goal.returns-in-Ok-clause-passes
returns-in-Ok-clause-passes g c = λ durable.
    passes_both g.D.Disk (MayLeave (g.D.Disk.folder c.args.disk.now)) c.args.disk.now c.sync.new.self c.sync_names.new.disk (g.met.D.Disk.nested durable c.sync_names.new.disk)
    (passes_one g.D.Disk (MayLeave (g.D.Disk.folder c.args.disk.now)) c.args.disk.now c.sync.new.self (c.sync.ensures.time durable) (c.sync.ensures.inside durable) (λ image was. was) (sync_images (g.D.Disk.folder c.args.disk.now) (g.D.Disk.folder c.sync.new.self) (error_of c.sync.result) (c.sync.ensures.leaves durable)))
    (passes_weaker g.D.Disk (MayLeave (g.D.Disk.folder c.sync.new.self)) (MayLeave (g.D.Disk.folder c.args.disk.now)) c.sync.new.self c.sync_names.new.disk (c.sync_names.ensures.passes durable) (sync_images (g.D.Disk.folder c.args.disk.now) (g.D.Disk.folder c.sync.new.self) (error_of c.sync.result) (c.sync.ensures.leaves durable)))

pub returns-in-Ok-clause-cause : goal.returns-in-Ok-clause-cause
returns-in-Ok-clause-cause g c = counted_on (g.D.Disk.failed c.args.disk.now) (g.D.Disk.failed c.sync.new.self) (g.D.Disk.failed c.sync_names.new.disk) tt c.sync_names.result c.in-Ok.ensures.cause c.sync_names.ensures.cause

pub returns-in-Err-clause-stay : goal.returns-in-Err-clause-stay
returns-in-Err-clause-stay g c = λ durable none. sync_earlier (g.D.Disk.folder c.args.disk.now) (g.D.Disk.folder c.sync.new.self) (error_of c.sync.result) (c.sync.ensures.leaves durable) ∙ none

pub returns-in-Err-clause-content : goal.returns-in-Err-clause-content
returns-in-Err-clause-content g c = λ durable. sync_content (g.D.Disk.folder c.args.disk.now) (g.D.Disk.folder c.sync.new.self) (error_of c.sync.result) (c.sync.ensures.leaves durable)

pub returns-in-Err-clause-images : goal.returns-in-Err-clause-images
returns-in-Err-clause-images g c = λ durable. sync_images (g.D.Disk.folder c.args.disk.now) (g.D.Disk.folder c.sync.new.self) (error_of c.sync.result) (c.sync.ensures.leaves durable)

pub returns-in-Err-clause-passes : goal.returns-in-Err-clause-passes
returns-in-Err-clause-passes g c = λ durable. (passes_one g.D.Disk (MayLeave (g.D.Disk.folder c.args.disk.now)) c.args.disk.now c.sync.new.self (c.sync.ensures.time durable) (c.sync.ensures.inside durable) (λ image was. was) (sync_images (g.D.Disk.folder c.args.disk.now) (g.D.Disk.folder c.sync.new.self) (error_of c.sync.result) (c.sync.ensures.leaves durable)))
