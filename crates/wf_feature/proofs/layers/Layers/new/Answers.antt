use Rattle.wf_feature.proofs.GatheredTheorem.{no_layers}
use Rattle.wf_feature.proofs.layers.Layers.new.Goals as goal

pub invariant_of-result : goal.invariant_of-result
invariant_of-result c = rw c.new.ensures.items no_layers
