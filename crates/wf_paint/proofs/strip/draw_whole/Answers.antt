use Rattle.std.proofs.Common.{◌+◌, pos, ◌+ℤ◌, ◌≤ℤ◌, arith}
use Rattle.std.proofs.lemmas.Int.{ints}
use Rattle.wf_geometry.specs.Exact.{opposite, product, plus}
use Rattle.wf_geometry.specs.Strip.{is_in_strip, IsStripEnd}
use Rattle.wf_paint.specs.RowPart.{most_between, IsBetween}
use Rattle.wf_geometry.specs.Limit.{pixel_side}
use Rattle.wf_paint.proofs.RowsLemmas.{rows_start, rows_end, rows_more}
use Rattle.wf_paint.proofs.RowEndsLemmas.{low_edge, edge_moves, apart_most, end_beyond, wide_row}
use Rattle.wf_geometry.proofs.StripLemmas.{strip_before, strip_after}
use Rattle.wf_paint.proofs.strip.draw_whole.Goals as goal

pub loop-row-init : goal.loop-row-init
loop-row-init c =
    let strip = c.args.strip in (
      rows_start (is_in_strip strip.levels strip.rows strip.columns) strip.rows.from c.args.color c.args.canvas.now
          (λ column row wide high before. strip_before strip.levels strip.rows strip.columns column row before),
      low_edge strip.levels strip.rows.from c.args.ends c.requires.ends,
    )

pub count-requires : goal.count-requires
unfolding plus
count-requires c =
    let between : IsBetween c.args.strip.columns (most_between c.args.ends.gap) c.loop-row.low = c.requires.between.each c.loop-row.row (omega arith) (omega arith) c.loop-row.low c.loop-row.invariant.1.ends in
    record { least = omega (arith, ints, between.from); most = omega (arith, ints, between.to) }

pub count-requires-in-loop-row : goal.count-requires-in-loop-row
unfolding plus
count-requires-in-loop-row c =
    let edge = c.loop-row.invariant.1 in
    let between : IsBetween c.args.strip.columns (most_between c.args.ends.gap) c.loop-row.low = c.requires.between.each c.loop-row.row (omega arith) (omega arith) c.loop-row.low edge.ends in
    let most : c.quotient_sum-high.result.whole ≤ℤ (c.loop-row.low.whole +ℤ pos (most_between c.args.ends.gap)) =
    apart_most c.args.ends.step c.loop-row.low c.args.ends.gap c.quotient_sum-high.result edge.ends.rest c.requires.ends.gap_rest c.requires.some c.quotient_sum-high.ensures.value in
    record { least = omega (arith, ints, c.quotient_sum-high.ensures.least, c.requires.some); most = omega (arith, ints, most, between.most) }

pub cover_few-requires : goal.cover_few-requires
unfolding plus
cover_few-requires c =
    let edge = c.loop-row.invariant.1 in
    let between : IsBetween c.args.strip.columns (most_between c.args.ends.gap) c.loop-row.low = c.requires.between.each c.loop-row.row (omega arith) (omega arith) c.loop-row.low edge.ends in
    let most : c.quotient_sum-high.result.whole ≤ℤ (c.loop-row.low.whole +ℤ pos (most_between c.args.ends.gap)) =
    apart_most c.args.ends.step c.loop-row.low c.args.ends.gap c.quotient_sum-high.result edge.ends.rest c.requires.ends.gap_rest c.requires.some c.quotient_sum-high.ensures.value in
    let wide = c.loop-row.invariant.0.width in
    let high = c.loop-row.invariant.0.height in
    record {
      row_within = omega arith;
      least = omega (arith, ints, c.quotient_sum-high.ensures.least, c.requires.some);
      most = omega (arith, ints, most, between.most);
      to_within = omega (arith, ints, most, between.to);
    }

pub loop-row-preserved : goal.loop-row-preserved
unfolding plus
loop-row-preserved c =
    let levels = c.args.strip.levels in
    let rows = c.args.strip.rows in
    let columns = c.args.strip.columns in
    let ends = c.requires.ends in
    let step = c.args.ends.step in
    let edge = c.loop-row.invariant.1 in
    let between : IsBetween columns (most_between c.args.ends.gap) c.loop-row.low = c.requires.between.each c.loop-row.row (omega arith) (omega arith) c.loop-row.low edge.ends in
    let most : c.quotient_sum-high.result.whole ≤ℤ (c.loop-row.low.whole +ℤ pos (most_between c.args.ends.gap)) =
    apart_most step c.loop-row.low c.args.ends.gap c.quotient_sum-high.result edge.ends.rest ends.gap_rest c.requires.some c.quotient_sum-high.ensures.value in
    let upper : IsStripEnd levels.margin levels.origin (product (pos pixel_side) levels.up) step c.loop-row.row c.quotient_sum-high.result =
    end_beyond levels.margin levels.origin (product (pos pixel_side) levels.up) step c.loop-row.row c.loop-row.low c.args.ends.gap c.quotient_sum-high.result edge.ends ends.apart c.quotient_sum-high.ensures.value c.quotient_sum-high.ensures.rest in (
      rows_more (is_in_strip levels rows columns) c.loop-row.row (record { from = c.count.result; to = c.count.result + c.count-in-loop-row.result }) c.args.color
          c.args.canvas.now c.loop-row.canvas c.cover_few.new.self c.loop-row.invariant.0
          (wide_row levels step c.loop-row.row c.count-in-loop-row.result c.args.canvas.now.width c.count.result rows columns c.loop-row.low c.quotient_sum-high.result
          ends.across c.requires.columns (omega arith) (omega arith) edge.ends upper
          (omega (arith, ints)) (omega (arith, ints)) (omega (arith, ints, between.from)) (omega (arith, ints, most, between.to)))
          c.cover_few.ensures,
      edge_moves (opposite levels.margin) levels.origin (product (pos pixel_side) levels.up) step c.loop-row.row c.loop-row.low c.args.ends.change c.quotient_sum-low.result
          edge ends.moves c.quotient_sum-low.ensures.value c.quotient_sum-low.ensures.rest c.quotient_sum-low.ensures.within,
    )

pub returns : goal.returns
returns c =
    let strip = c.args.strip in
    rows_end (is_in_strip strip.levels strip.rows strip.columns) c.loop-row.row c.args.color c.args.canvas.now c.loop-row.canvas
    (λ column row wide high after. strip_after strip.levels strip.rows strip.columns column row (omega arith))
    c.loop-row.invariant.0
