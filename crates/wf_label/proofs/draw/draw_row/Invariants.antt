use Rattle.wf_label.specs.Colored.{IsPixmapColored, is_in_bits}
use Rattle.wf_label.specs.Placed.{placed_value}
use Rattle.wf_label.proofs.BitLemmas.{row_so_far}
use Rattle.wf_label.proofs.draw.draw_row.Given as goal

-- the bits in the columns so far are drawn
abbrev pub invariant-loop-column : goal.invariant-loop-column
invariant-loop-column l = IsPixmapColored (is_in_bits (placed_value l.label) (row_so_far l.index l.up l.row l.column)) l.label.color l.initial.pixmap l.pixmap
