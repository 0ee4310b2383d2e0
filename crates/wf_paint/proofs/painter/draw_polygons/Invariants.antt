use Rattle.std.proofs.Common.{drop}
use Rattle.std.specs.List.{flat_map}
use Rattle.wf_paint.specs.Styles.{filled_and_outlined}
use Rattle.wf_paint.proofs.StylesLemmas.{IsDrawn}
use Rattle.wf_paint.proofs.painter.draw_polygons.Given as goal

abbrev pub invariant-loop-index : goal.invariant-loop-index
invariant-loop-index l = IsDrawn l.edges (flat_map (filled_and_outlined l.edges) (drop l.index l.styles)) l.filled l.widest l.initial.canvas l.canvas
