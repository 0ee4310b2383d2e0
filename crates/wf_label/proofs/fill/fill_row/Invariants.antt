use Rattle.std.proofs.Common.{◌+◌}
use Rattle.wf_label.proofs.ColoredLemmas.{IsRun}
use Rattle.wf_label.proofs.fill.fill_row.Given as goal

-- the pixels of the row so far got the colour
abbrev pub invariant-loop-column : goal.invariant-loop-column
invariant-loop-column l = IsRun (l.start + l.left) (l.start + l.column) l.color l.initial.pixmap l.pixmap
