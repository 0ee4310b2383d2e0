-- By what a power cut leaves of the file.
use Rattle.wf_histories.proofs.KeptFarm.{cut_farms_are_kept}
use Rattle.wf_histories.proofs.theorem.cut_farms_are_kept.Goals as goal

pub returns : goal.returns
returns g c = cut_farms_are_kept g.T.Tape c.farm_files_are_kept.ensures.nodes c.farm_files_are_kept.ensures.starts
