use Rattle.std.proofs.Common.{drop, false}
use Rattle.std.specs.List.{flat_map}
use Rattle.wf_paint.specs.Styles.{line_along}
use Rattle.wf_paint.proofs.StylesLemmas.{IsDrawn}
use Rattle.wf_paint.proofs.painter.draw_lines.Given as goal

abbrev pub invariant-loop-index : goal.invariant-loop-index
invariant-loop-index l = IsDrawn l.segments (flat_map (line_along l.segments) (drop l.index l.styles)) false l.widest l.initial.canvas l.canvas
