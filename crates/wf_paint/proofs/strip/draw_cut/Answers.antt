use Rattle.std.proofs.Common.{pos, arith}
use Rattle.wf_geometry.specs.Exact.{opposite, product}
use Rattle.wf_geometry.specs.Strip.{is_in_strip}
use Rattle.wf_geometry.specs.Limit.{pixel_side}
use Rattle.wf_paint.proofs.RowsLemmas.{rows_start, rows_end, rows_more}
use Rattle.wf_paint.proofs.RowEndsLemmas.{low_edge, high_edge, edge_moves, rising_row, strip_row}
use Rattle.wf_geometry.proofs.StripLemmas.{strip_before, strip_after}
use Rattle.wf_paint.proofs.strip.draw_cut.Goals as goal

pub loop-row-init : goal.loop-row-init
loop-row-init c =
    let strip = c.args.strip in
    let ends = c.args.ends in (
      rows_start (is_in_strip strip.levels strip.rows strip.columns) strip.rows.from c.args.color c.args.canvas.now
          (λ column row wide high before. strip_before strip.levels strip.rows strip.columns column row before),
      (
        low_edge strip.levels strip.rows.from ends c.requires.ends,
        high_edge strip.levels strip.rows.from ends c.quotient_sum-high.result c.requires.ends c.quotient_sum-high.ensures.value c.quotient_sum-high.ensures.rest c.quotient_sum-high.ensures.within,
      ),
    )

pub loop-row-preserved : goal.loop-row-preserved
loop-row-preserved c =
    let levels = c.args.strip.levels in
    let rows = c.args.strip.rows in
    let columns = c.args.strip.columns in
    let ends = c.requires.ends in
    let step = c.args.ends.step in
    let edges = c.loop-row.invariant.1 in (
      rows_more (is_in_strip levels rows columns) c.loop-row.row c.part-span.result c.args.color
          c.args.canvas.now c.loop-row.canvas c.cover.new.self c.loop-row.invariant.0
          (rw c.part-span.ensures.part.value (strip_row levels rows columns _ c.args.canvas.now.width c.loop-row.row
          c.requires.columns c.loop-row.auto.row c.loop-row-test.true
          (rising_row levels levels.margin step c.loop-row.row columns.to c.loop-row.low c.loop-row.high _ ends.across edges.0.ends edges.1.ends
          c.part-span.ensures.part.from c.part-span.ensures.part.to c.part-span.ensures.part.to_within)))
          c.cover.ensures,
      (
        edge_moves (opposite levels.margin) levels.origin (product (pos pixel_side) levels.up) step c.loop-row.row c.loop-row.low c.args.ends.change c.quotient_sum-low.result
            edges.0 ends.moves c.quotient_sum-low.ensures.value c.quotient_sum-low.ensures.rest c.quotient_sum-low.ensures.within,
        edge_moves levels.margin levels.origin (product (pos pixel_side) levels.up) step c.loop-row.row c.loop-row.high c.args.ends.change c.quotient_sum-high-in-loop-row.result
            edges.1 ends.moves c.quotient_sum-high-in-loop-row.ensures.value c.quotient_sum-high-in-loop-row.ensures.rest c.quotient_sum-high-in-loop-row.ensures.within,
      ),
    )

pub returns : goal.returns
returns c =
    let strip = c.args.strip in
    rows_end (is_in_strip strip.levels strip.rows strip.columns) c.loop-row.row c.args.color c.args.canvas.now c.loop-row.canvas
    (λ column row wide high after. strip_after strip.levels strip.rows strip.columns column row (omega arith))
    c.loop-row.invariant.0
