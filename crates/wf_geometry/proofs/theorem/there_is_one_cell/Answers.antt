use Rattle.wf_geometry.proofs.GridLemmas.{one_cell}
use Rattle.wf_geometry.proofs.theorem.there_is_one_cell.Goals as goal

pub returns : goal.returns
returns c = one_cell
