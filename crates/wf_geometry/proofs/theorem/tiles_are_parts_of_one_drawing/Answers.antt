use Rattle.wf_geometry.proofs.DrawingLemmas.{tiles_drawn}
use Rattle.wf_geometry.proofs.theorem.tiles_are_parts_of_one_drawing.Goals as goal

pub returns : goal.returns
returns c = tiles_drawn
