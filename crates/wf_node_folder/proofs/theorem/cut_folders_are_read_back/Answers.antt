use Rattle.wf_node_folder.proofs.PowerCut.{clears_are_sound, inits_are_sound, nodes_are_sound, stops_are_sound}
use Rattle.wf_node_folder.proofs.theorem.cut_folders_are_read_back.Goals as goal

pub returns-clause-init : goal.returns-clause-init
returns-clause-init c = inits_are_sound

pub returns-clause-clear : goal.returns-clause-clear
returns-clause-clear c = clears_are_sound

pub returns-clause-nodes : goal.returns-clause-nodes
returns-clause-nodes c = nodes_are_sound

pub returns-clause-stop : goal.returns-clause-stop
returns-clause-stop c = stops_are_sound
