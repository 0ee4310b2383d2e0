-- What a power cut leaves of the file `farm`.
use Rattle.wf_node_folder.proofs.KeptFarm.{cuts_keep_farm}
use Rattle.wf_node_folder.proofs.StartedFarm.{starts_keep_farm}
use Rattle.wf_node_folder.proofs.theorem.farm_files_are_kept.Goals as goal

pub returns-clause-nodes : goal.returns-clause-nodes
returns-clause-nodes c = cuts_keep_farm

pub returns-clause-starts : goal.returns-clause-starts
returns-clause-starts c = starts_keep_farm
