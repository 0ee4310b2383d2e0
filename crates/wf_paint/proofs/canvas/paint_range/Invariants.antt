use Rattle.std.proofs.Common.{◌-◌, ◌≤◌}
use Rattle.wf_paint.specs.Cells.{IsRangePainted}
use Rattle.wf_paint.proofs.canvas.paint_range.Given as goal

abbrev pub invariant-loop-here : goal.invariant-loop-here
invariant-loop-here l = (l.start ≤ l.here) × ((l.here ≤ l.end)
    × IsRangePainted l.start l.here l.color l.initial.free.items l.initial.pixels l.free.items l.pixels)

abbrev pub decreases-loop-here : goal.decreases-loop-here
decreases-loop-here l = l.end - l.here
