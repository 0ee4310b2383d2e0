use Rattle.std.proofs.Common.{arith}
use Rattle.wf_geometry.specs.Strip.{is_in_strip}
use Rattle.wf_paint.proofs.RowsLemmas.{rows_start, rows_end, rows_more}
use Rattle.wf_paint.proofs.RowEndsLemmas.{strip_row}
use Rattle.wf_geometry.proofs.StripLemmas.{strip_before, strip_after}
use Rattle.wf_paint.proofs.strip.draw_far.Goals as goal

pub loop-row-init : goal.loop-row-init
loop-row-init c =
    rows_start (is_in_strip c.args.strip.levels c.args.strip.rows c.args.strip.columns) c.args.strip.rows.from c.args.color c.args.canvas.now
    (λ column row wide high before. strip_before c.args.strip.levels c.args.strip.rows c.args.strip.columns column row before)

pub loop-row-preserved : goal.loop-row-preserved
loop-row-preserved c =
    rows_more (is_in_strip c.args.strip.levels c.args.strip.rows c.args.strip.columns) c.loop-row.row c.both-span.result c.args.color
    c.args.canvas.now c.loop-row.canvas c.cover.new.self c.loop-row.invariant
    (rw c.both-span.ensures (strip_row c.args.strip.levels c.args.strip.rows c.args.strip.columns c.row_within-within.result c.args.canvas.now.width c.loop-row.row
    c.requires.columns c.loop-row.auto.row c.loop-row-test.true c.row_within-within.ensures))
    c.cover.ensures

pub returns : goal.returns
returns c =
    rows_end (is_in_strip c.args.strip.levels c.args.strip.rows c.args.strip.columns) c.loop-row.row c.args.color c.args.canvas.now c.loop-row.canvas
    (λ column row wide high after. strip_after c.args.strip.levels c.args.strip.rows c.args.strip.columns column row (omega arith))
    c.loop-row.invariant
