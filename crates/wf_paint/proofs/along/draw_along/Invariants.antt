use Rattle.std.proofs.Common.{◌<◌, take}
use Rattle.wf_paint.specs.Shown.{IsColored}
use Rattle.wf_paint.proofs.AlongLemmas.{on_any}
use Rattle.wf_paint.proofs.along.draw_along.Given as goal

abbrev pub invariant-loop-segment : goal.invariant-loop-segment
invariant-loop-segment l = IsColored (on_any l.width (take l.segment-index l.segments)) l.color l.initial.canvas l.canvas × (l.long < 256)
