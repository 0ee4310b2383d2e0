use Rattle.std.proofs.Common.{◌≡◌, ◌++◌, take}
use Rattle.std.specs.List.{filter_map}
use Rattle.wf_label.specs.Walk.{candidate_of, candidate_values}
use Rattle.wf_label.proofs.label_order.push_layer.Given as goal

abbrev pub invariant-loop-feature : goal.invariant-loop-feature
invariant-loop-feature l = candidate_values l.walked.items
    ≡ candidate_values l.initial.walked.items ++ filter_map (candidate_of l.view l.layer) (take l.feature-index l.feature-items)
