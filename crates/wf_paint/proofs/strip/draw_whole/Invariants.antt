use Rattle.std.proofs.Common.{pos}
use Rattle.wf_geometry.specs.Exact.{opposite, product}
use Rattle.wf_paint.specs.Shown.{IsColored}
use Rattle.wf_geometry.specs.Strip.{is_in_strip}
use Rattle.wf_geometry.specs.Limit.{pixel_side}
use Rattle.wf_paint.proofs.RowsLemmas.{below_row}
use Rattle.wf_paint.proofs.RowEndsLemmas.{IsEdge}
use Rattle.wf_paint.proofs.strip.draw_whole.Given as goal

abbrev pub invariant-loop-row : goal.invariant-loop-row
invariant-loop-row l =
    IsColored (below_row l.row (is_in_strip l.fn.strip.levels l.fn.strip.rows l.fn.strip.columns)) l.color l.initial.canvas l.canvas
    × IsEdge (opposite l.fn.strip.levels.margin) l.fn.strip.levels.origin (product (pos pixel_side) l.fn.strip.levels.up) l.ends.step l.row l.low
