use Rattle.wf_disk.specs.FolderTheorems.{is_cut_to_any}
use Rattle.wf_disk.proofs.theorem.a_memory_disk_is_cut_to_any_image.Goals as goal

pub returns : goal.returns
returns c = is_cut_to_any
