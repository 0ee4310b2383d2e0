use Rattle.wf_disk.specs.FolderTheorems as theorem
use Rattle.wf_disk.proofs.theorem.synced_bytes_stay.Goals as goal

pub returns : goal.returns
returns c = theorem.synced_bytes_stay
