use Rattle.std.proofs.Common.{drop}
use Rattle.std.specs.List.{flat_map}
use Rattle.wf_geometry.specs.Operation.{part_squares}
use Rattle.wf_paint.specs.Shown.{IsShown}
use Rattle.wf_paint.proofs.painter.draw_squares.Given as goal

abbrev pub invariant-loop-index : goal.invariant-loop-index
invariant-loop-index l = IsShown (flat_map (part_squares l.view l.style) (drop l.index l.parts)) l.initial.canvas l.canvas
