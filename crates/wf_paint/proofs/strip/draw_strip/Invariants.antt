use Rattle.std.proofs.Common.{◌+◌, ◌*◌}
use Rattle.wf_paint.specs.Shown.{IsColored}
use Rattle.wf_geometry.specs.Strip.{is_in_strip, AreEnds}
use Rattle.wf_paint.proofs.strip.draw_strip.Given as goal

-- the rows before this block are painted
abbrev pub invariant-loop-index : goal.invariant-loop-index
invariant-loop-index l =
    IsColored (is_in_strip l.strip.levels (record { from = l.strip.rows.from; to = l.strip.rows.from + 16 * l.index }) l.strip.columns) l.color l.initial.canvas l.canvas
    × AreEnds l.strip.levels (l.strip.rows.from + 16 * l.index) (record { low = l.low; gap = l.ends.gap; change = l.ends.change; step = l.ends.step })
