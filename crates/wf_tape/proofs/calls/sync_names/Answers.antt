-- The names are synced, or they were.
use Rattle.wf_tape.proofs.Folders.{names_done, names_own, names_stay, names_images}
use Rattle.wf_tape.proofs.Turns.{passes_one, passes_none}
use Rattle.wf_disk.specs.Folder.{MayLeave}
use Rattle.wf_disk.specs.Call.{error_of}
use Rattle.wf_tape.proofs.calls.sync_names.Goals as goal

pub returns-then-are_names_synced-clause-passes : goal.returns-then-are_names_synced-clause-passes
returns-then-are_names_synced-clause-passes g c = λ durable. passes_none g.D.Disk c.args.disk.now (g.met.D.Disk.is_now durable c.args.disk.now)

pub returns-clause-own : goal.returns-clause-own
returns-clause-own g c = λ durable. names_own (g.D.Disk.folder c.args.disk.now) (g.D.Disk.folder c.sync_names.new.self) (error_of c.sync_names.result) (c.sync_names.ensures.leaves durable)

pub returns-clause-names : goal.returns-clause-names
returns-clause-names g c = λ durable synced. names_done (g.D.Disk.folder c.args.disk.now) (g.D.Disk.folder c.sync_names.new.self) c.sync_names.result (c.sync_names.ensures.leaves durable)

pub returns-clause-stay : goal.returns-clause-stay
returns-clause-stay g c = λ durable none. names_stay (g.D.Disk.folder c.args.disk.now) (g.D.Disk.folder c.sync_names.new.self) (error_of c.sync_names.result) (c.sync_names.ensures.leaves durable) none

pub returns-clause-images : goal.returns-clause-images
returns-clause-images g c = λ durable. names_images (g.D.Disk.folder c.args.disk.now) (g.D.Disk.folder c.sync_names.new.self) (error_of c.sync_names.result) (c.sync_names.ensures.leaves durable)

pub returns-clause-passes : goal.returns-clause-passes
returns-clause-passes g c = λ durable. (passes_one g.D.Disk (MayLeave (g.D.Disk.folder c.args.disk.now)) c.args.disk.now c.sync_names.new.self (c.sync_names.ensures.time durable) (c.sync_names.ensures.inside durable) (λ image was. was) (names_images (g.D.Disk.folder c.args.disk.now) (g.D.Disk.folder c.sync_names.new.self) (error_of c.sync_names.result) (c.sync_names.ensures.leaves durable)))
