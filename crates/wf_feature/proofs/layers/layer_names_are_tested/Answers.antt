use Rattle.wf_feature.proofs.LayerNames.{is_name, named}
use Rattle.wf_feature.proofs.layers.layer_names_are_tested.Goals as goal

pub returns : goal.returns
returns c = λ name text. (is_name name text, named name)
