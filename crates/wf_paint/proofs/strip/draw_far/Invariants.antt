use Rattle.wf_paint.specs.Shown.{IsColored}
use Rattle.wf_geometry.specs.Strip.{is_in_strip}
use Rattle.wf_paint.proofs.RowsLemmas.{below_row}
use Rattle.wf_paint.proofs.strip.draw_far.Given as goal

abbrev pub invariant-loop-row : goal.invariant-loop-row
invariant-loop-row l = IsColored (below_row l.row (is_in_strip l.strip.levels l.strip.rows l.strip.columns)) l.color l.initial.canvas l.canvas
