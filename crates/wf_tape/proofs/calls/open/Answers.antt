-- The own file is there, and its name is synced.
use Rattle.std.proofs.Common.{ap, ◌∙◌}
use Rattle.wf_tape.proofs.Folders.{open_images, open_content, names_done, names_own, names_images}
use Rattle.wf_tape.proofs.Turns.{passes_one, passes_both, counted_on}
use Rattle.wf_disk.specs.Folder.{MayLeave, bytes_in}
use Rattle.wf_disk.specs.Call.{error_of}
use Rattle.wf_tape.proofs.calls.«open».Goals as goal

pub returns-in-Ok-clause-names : goal.returns-in-Ok-clause-names
returns-in-Ok-clause-names g c = λ durable. names_done (g.D.Disk.folder c.«open».new.self) (g.D.Disk.folder c.sync_names.new.self) c.sync_names.result (c.sync_names.ensures.leaves durable)

pub returns-in-Ok-clause-content : goal.returns-in-Ok-clause-content
returns-in-Ok-clause-content g c = λ durable. ap bytes_in (names_own (g.D.Disk.folder c.«open».new.self) (g.D.Disk.folder c.sync_names.new.self) (error_of c.sync_names.result) (c.sync_names.ensures.leaves durable)) ∙ open_content (g.D.Disk.folder c.args.disk.now) (g.D.Disk.folder c.«open».new.self) (error_of c.«open».result) (c.«open».ensures.leaves durable)

pub returns-in-Ok-clause-images : goal.returns-in-Ok-clause-images
returns-in-Ok-clause-images g c = λ durable image left. (open_images (g.D.Disk.folder c.args.disk.now) (g.D.Disk.folder c.«open».new.self) (error_of c.«open».result) (c.«open».ensures.leaves durable)) image ((names_images (g.D.Disk.folder c.«open».new.self) (g.D.Disk.folder c.sync_names.new.self) (error_of c.sync_names.result) (c.sync_names.ensures.leaves durable)) image left)

pub returns-in-Ok-clause-passes : goal.returns-in-Ok-clause-passes
returns-in-Ok-clause-passes g c = λ durable.
    passes_both g.D.Disk (MayLeave (g.D.Disk.folder c.args.disk.now)) c.args.disk.now c.«open».new.self c.sync_names.new.self (g.met.D.Disk.nested durable c.sync_names.new.self)
    (passes_one g.D.Disk (MayLeave (g.D.Disk.folder c.args.disk.now)) c.args.disk.now c.«open».new.self (c.«open».ensures.time durable) (c.«open».ensures.inside durable) (λ image was. was) (open_images (g.D.Disk.folder c.args.disk.now) (g.D.Disk.folder c.«open».new.self) (error_of c.«open».result) (c.«open».ensures.leaves durable)))
    (passes_one g.D.Disk (MayLeave (g.D.Disk.folder c.args.disk.now)) c.«open».new.self c.sync_names.new.self (c.sync_names.ensures.time durable) (c.sync_names.ensures.inside durable) (open_images (g.D.Disk.folder c.args.disk.now) (g.D.Disk.folder c.«open».new.self) (error_of c.«open».result) (c.«open».ensures.leaves durable)) (λ image left. (open_images (g.D.Disk.folder c.args.disk.now) (g.D.Disk.folder c.«open».new.self) (error_of c.«open».result) (c.«open».ensures.leaves durable)) image ((names_images (g.D.Disk.folder c.«open».new.self) (g.D.Disk.folder c.sync_names.new.self) (error_of c.sync_names.result) (c.sync_names.ensures.leaves durable)) image left)))

pub returns-in-Ok-clause-cause : goal.returns-in-Ok-clause-cause
returns-in-Ok-clause-cause g c = counted_on (g.D.Disk.failed c.args.disk.now) (g.D.Disk.failed c.«open».new.self) (g.D.Disk.failed c.sync_names.new.self) tt c.sync_names.result c.in-Ok.ensures.cause c.sync_names.ensures.cause

pub returns-in-Err-clause-content : goal.returns-in-Err-clause-content
returns-in-Err-clause-content g c = λ durable. open_content (g.D.Disk.folder c.args.disk.now) (g.D.Disk.folder c.«open».new.self) (error_of c.«open».result) (c.«open».ensures.leaves durable)

pub returns-in-Err-clause-images : goal.returns-in-Err-clause-images
returns-in-Err-clause-images g c = λ durable. open_images (g.D.Disk.folder c.args.disk.now) (g.D.Disk.folder c.«open».new.self) (error_of c.«open».result) (c.«open».ensures.leaves durable)

pub returns-in-Err-clause-passes : goal.returns-in-Err-clause-passes
returns-in-Err-clause-passes g c = λ durable. (passes_one g.D.Disk (MayLeave (g.D.Disk.folder c.args.disk.now)) c.args.disk.now c.«open».new.self (c.«open».ensures.time durable) (c.«open».ensures.inside durable) (λ image was. was) (open_images (g.D.Disk.folder c.args.disk.now) (g.D.Disk.folder c.«open».new.self) (error_of c.«open».result) (c.«open».ensures.leaves durable)))
