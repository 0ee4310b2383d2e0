use Rattle.wf_def.proofs.LayerLemmas.{HasEnoughPoints-from_test, test-from_HasEnoughPoints}
use Rattle.wf_def.proofs.layer.enough_points_are_tested.Goals as goal

pub returns : goal.returns
returns c = λ kind f. (HasEnoughPoints-from_test kind f, test-from_HasEnoughPoints kind f)
