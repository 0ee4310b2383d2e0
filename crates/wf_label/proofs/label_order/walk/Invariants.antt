use Rattle.std.proofs.Common.{◌≡◌, drop, reverse, slice_get}
use Rattle.std.specs.List.{flat_map}
use Rattle.wf_label.specs.Walk.{candidate_values, entry_candidates}
use Rattle.wf_label.proofs.label_order.walk.Given as goal

abbrev pub invariant-loop-index : goal.invariant-loop-index
invariant-loop-index l = candidate_values l.walked.items ≡ flat_map (λ i. entry_candidates l.view (slice_get l.map.layers i)) (reverse (drop l.index l.layers))
