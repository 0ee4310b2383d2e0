use Rattle.std.proofs.Common.{◌≡◌, drop}
use Rattle.wf_def.specs.Limits.{has_layer}
use Rattle.wf_feature.proofs.layers.Layers.has_layer.Given as goal

-- none of the layers so far has the name
abbrev pub invariant-loop-other : goal.invariant-loop-other
invariant-loop-other l = has_layer l.entries l.name ≡ has_layer (drop l.other-index l.entries) l.name
