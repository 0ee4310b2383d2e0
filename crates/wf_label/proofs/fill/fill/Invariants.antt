use Rattle.wf_label.specs.Colored.{IsPixmapColored}
use Rattle.wf_label.proofs.ColoredLemmas.{in_rows}
use Rattle.wf_label.proofs.fill.fill.Given as goal

-- the rows so far got the colour
abbrev pub invariant-loop-row : goal.invariant-loop-row
invariant-loop-row l = IsPixmapColored (in_rows l.pixel_box l.bottom l.row) l.color l.initial.pixmap l.pixmap
