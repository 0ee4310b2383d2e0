use Rattle.wf_runs.proofs.Folder.{folder_is_one_farm}
use Rattle.wf_runs.proofs.theorem.a_folder_is_one_farm.Goals as goal

pub returns : goal.returns
returns g c = folder_is_one_farm c.records_are_read_one_way.ensures.one g.T.Tape
