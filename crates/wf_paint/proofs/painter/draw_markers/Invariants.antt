use Rattle.std.proofs.Common.{drop}
use Rattle.std.specs.List.{flat_map}
use Rattle.wf_geometry.specs.Operation.{squares}
use Rattle.wf_paint.specs.Shown.{IsShown}
use Rattle.wf_paint.proofs.painter.draw_markers.Given as goal

abbrev pub invariant-loop-index : goal.invariant-loop-index
invariant-loop-index l = IsShown (flat_map (λ style. squares l.view style l.parts) (drop l.index l.styles)) l.initial.canvas l.canvas
