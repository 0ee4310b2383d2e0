use Rattle.std.proofs.Common.{◌-◌, ◌≤◌}
use Rattle.wf_paint.specs.Cells.{ArePainted}
use Rattle.wf_paint.proofs.canvas.write_set.Given as goal

abbrev pub invariant-loop-here : goal.invariant-loop-here
invariant-loop-here l = (l.here ≤ 64) × ArePainted l.here l.first l.bits l.color l.initial.pixels l.pixels

abbrev pub decreases-loop-here : goal.decreases-loop-here
decreases-loop-here l = 64 - l.here
