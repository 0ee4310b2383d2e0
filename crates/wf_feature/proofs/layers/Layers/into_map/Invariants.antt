use Rattle.std.proofs.Common.{◌≡◌, ◌++◌}
use Rattle.wf_feature.proofs.layers.Layers.into_map.Given as goal

-- the layers so far are in the map, and the others are still to come
abbrev pub invariant-loop-entry : goal.invariant-loop-entry
invariant-loop-entry l = (l.all ≡ record l.fn.map { layers = l.yielded }) × (l.all.layers ++ l.entry-iterator.rest.items ≡ l.fn.self)
