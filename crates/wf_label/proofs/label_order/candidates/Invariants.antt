use Rattle.std.proofs.Common.{◌≡◌, ◌++◌}
use Rattle.wf_def.specs.Limit.{most_priority}
use Rattle.wf_label.specs.Label.{labels_up_to}
use Rattle.wf_label.specs.Placed.{placed_values}
use Rattle.wf_label.proofs.label_order.candidates.Given as goal

-- the labels so far, and those of the priorities that are left, are all
abbrev pub invariant-loop-lower : goal.invariant-loop-lower
invariant-loop-lower l = placed_values l.labels.items ++ labels_up_to l.map l.layers l.view l.lower ≡ labels_up_to l.map l.layers l.view most_priority
