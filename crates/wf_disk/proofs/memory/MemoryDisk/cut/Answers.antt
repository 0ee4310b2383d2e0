-- What is left is what a power cut may leave.
use Rattle.std.proofs.Common.{sym, ap, subst, ◌∙◌}
use Rattle.wf_disk.specs.Folder.{Folder, IsCrashed}
use Rattle.wf_disk.specs.MemoryDisk.{cut_to}
use Rattle.wf_disk.specs.FolderTheorems.{cut_crashes}
use Rattle.wf_disk.proofs.memory.MemoryDisk.cut.Goals as goal

pub returns-clause-crashed : goal.returns-clause-crashed
returns-clause-crashed c =
    subst (λ (folder : Folder). IsCrashed c.args.self.now.folder folder) (sym (c.cut.ensures ∙ ap (λ d. cut_to c.args.back c.args.keep d.folder) c.self.view_is))
    (cut_crashes c.args.back c.args.keep c.args.self.now.folder)
