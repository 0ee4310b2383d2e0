use Rattle.std.proofs.Common.{pos}
use Rattle.wf_paint.specs.Shown.{IsColored}
use Rattle.wf_geometry.specs.Square.{is_in_square}
use Rattle.wf_paint.proofs.RowsLemmas.{below_row}
use Rattle.wf_paint.proofs.about.draw_about.Given as goal

abbrev pub invariant-loop-row : goal.invariant-loop-row
invariant-loop-row l = IsColored (below_row l.row (λ column row. is_in_square l.fn.size l.fn.position (pos column) (pos row))) l.color l.initial.canvas l.canvas
