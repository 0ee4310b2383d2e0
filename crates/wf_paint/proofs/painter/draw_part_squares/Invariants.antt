use Rattle.std.proofs.Common.{drop}
use Rattle.std.specs.List.{flat_map}
use Rattle.wf_geometry.specs.Operation.{in_color, SquareOf}
use Rattle.wf_geometry.specs.View.{position_of}
use Rattle.wf_paint.specs.Shown.{IsShown}
use Rattle.wf_paint.proofs.painter.draw_part_squares.Given as goal

abbrev pub invariant-loop-index : goal.invariant-loop-index
invariant-loop-index l = IsShown (flat_map (λ point. in_color (SquareOf l.style.size (position_of l.view point)) l.style.color) (drop l.index l.points)) l.initial.canvas l.canvas
