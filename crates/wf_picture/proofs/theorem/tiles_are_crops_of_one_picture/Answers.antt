use Rattle.wf_picture.proofs.TileLemmas.{one_picture, crops}
use Rattle.wf_picture.proofs.theorem.tiles_are_crops_of_one_picture.Goals as goal

pub returns-clause-one_picture : goal.returns-clause-one_picture
returns-clause-one_picture c = one_picture c.tiles_are_parts_of_one_drawing.ensures

pub returns-clause-crops : goal.returns-clause-crops
returns-clause-crops c = crops c.tiles_are_parts_of_one_drawing.ensures
