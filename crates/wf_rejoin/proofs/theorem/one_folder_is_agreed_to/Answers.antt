use Rattle.wf_rejoin.proofs.Voters as voters
use Rattle.wf_rejoin.proofs.theorem.one_folder_is_agreed_to.Goals as goal

pub returns : goal.returns
returns c = voters.one_folder
