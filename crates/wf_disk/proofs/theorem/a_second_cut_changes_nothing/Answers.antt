use Rattle.wf_disk.specs.FolderTheorems.{cuts_once}
use Rattle.wf_disk.proofs.theorem.a_second_cut_changes_nothing.Goals as goal

pub returns : goal.returns
returns c = cuts_once
