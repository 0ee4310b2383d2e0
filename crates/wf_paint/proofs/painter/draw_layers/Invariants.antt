use Rattle.std.proofs.Common.{drop, slice_get}
use Rattle.std.specs.List.{flat_map}
use Rattle.wf_geometry.specs.Operation.{entry_operations}
use Rattle.wf_paint.specs.Shown.{IsShown}
use Rattle.wf_paint.proofs.painter.draw_layers.Given as goal

abbrev pub invariant-loop-index : goal.invariant-loop-index
invariant-loop-index l = IsShown (flat_map (λ i. entry_operations l.view (slice_get l.map.layers i)) (drop l.index l.layers)) l.initial.canvas l.canvas
