use Rattle.std.proofs.Common.{take}
use Rattle.wf_label.specs.Placed.{placed_values}
use Rattle.wf_label.specs.LabelLayout.{IsLayout}
use Rattle.wf_label.specs.Taken.{IsTaken}
use Rattle.wf_label.proofs.placement.place_among.Given as goal

-- the labels so far are placed as they would be with none after them, and the pixels of their boxes
-- are marked
abbrev pub invariant-loop-label : goal.invariant-loop-label
invariant-loop-label l = record {
  placed : IsLayout l.view (placed_values (take l.label-index l.labels)) (placed_values l.layout.placed.items);
  taken : IsTaken l.view (placed_values l.layout.placed.items) l.layout.marks.items;
}
