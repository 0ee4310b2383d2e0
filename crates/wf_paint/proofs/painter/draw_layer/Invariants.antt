use Rattle.std.proofs.Common.{drop}
use Rattle.std.specs.List.{flat_map}
use Rattle.wf_geometry.specs.Operation.{feature_operations}
use Rattle.wf_paint.specs.Shown.{IsShown}
use Rattle.wf_paint.proofs.painter.draw_layer.Given as goal

abbrev pub invariant-loop-index : goal.invariant-loop-index
invariant-loop-index l = IsShown (flat_map (feature_operations l.view l.layer) (drop l.index l.features)) l.initial.canvas l.canvas
