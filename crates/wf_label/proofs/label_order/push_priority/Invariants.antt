use Rattle.std.proofs.Common.{◌≡◌, ◌++◌, take}
use Rattle.std.specs.List.{filter_map}
use Rattle.wf_label.specs.Placed.{placed_values}
use Rattle.wf_label.specs.Walk.{candidate_value, if_of_priority}
use Rattle.wf_label.proofs.label_order.push_priority.Given as goal

abbrev pub invariant-loop-candidate : goal.invariant-loop-candidate
invariant-loop-candidate l = placed_values l.labels.items
    ≡ placed_values l.initial.labels.items ++ filter_map (λ c. if_of_priority l.priority (candidate_value c)) (take l.candidate-index l.walked)
