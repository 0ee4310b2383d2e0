use Rattle.std.proofs.Common.{◌≡◌, ◌+◌, length}
use Rattle.wf_paint.specs.Marks.{IsClear}
use Rattle.wf_paint.specs.Shown.{IsColored}
use Rattle.wf_paint.proofs.WalkLemmas.{is_inside_below}
use Rattle.wf_paint.proofs.inside.draw_inside.Given as goal

abbrev pub invariant-loop-row : goal.invariant-loop-row
invariant-loop-row l =
    IsColored (is_inside_below l.around l.row) l.color l.initial.canvas l.canvas × ((length l.odd.items ≡ l.initial.canvas.width + 1) × IsClear l.odd.items)
