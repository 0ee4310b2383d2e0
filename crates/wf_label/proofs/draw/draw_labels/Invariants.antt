use Rattle.std.proofs.Common.{drop}
use Rattle.wf_label.specs.Ink.{IsInked}
use Rattle.wf_label.specs.Placed.{placed_values}
use Rattle.wf_label.proofs.draw.draw_labels.Given as goal

-- the labels from this one on are drawn
abbrev pub invariant-loop-index : goal.invariant-loop-index
invariant-loop-index l = IsInked (placed_values (drop l.index l.labels)) l.initial.pixmap l.pixmap
