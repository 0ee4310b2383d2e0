use Rattle.std.proofs.Common.{◌≡◌, arith}
use Rattle.wf_paint.specs.RowPart.{most_between, IsBetween, StaysBetween}
use Rattle.wf_paint.proofs.RowEndsLemmas.{between_all, stays_between, strip_hidden, wide_few}
use Rattle.wf_paint.proofs.strip.draw_block.Goals as goal

pub is_hidden-requires-clause-first : goal.is_hidden-requires-clause-first
is_hidden-requires-clause-first c =
    between_all c.args.strip.columns c.most_between-width.result c.args.canvas.now.width c.args.ends.low c.requires.columns (c.are_between.ensures.first c.if-not-are_between.false)

pub is_hidden-requires-clause-last : goal.is_hidden-requires-clause-last
is_hidden-requires-clause-last c =
    between_all c.args.strip.columns c.most_between-width.result c.args.canvas.now.width c.args.next c.requires.columns (c.are_between.ensures.last c.if-not-are_between.false)

pub draw_whole-requires-clause-some : goal.draw_whole-requires-clause-some
draw_whole-requires-clause-some c =
    let first : IsBetween c.args.strip.columns c.most_between-width.result c.args.ends.low = c.are_between.ensures.first c.if-not-are_between.false in
    c.most_between-width.ensures.some first.least

pub draw_whole-requires-clause-between : goal.draw_whole-requires-clause-between
draw_whole-requires-clause-between c =
    let first : IsBetween c.args.strip.columns c.most_between-width.result c.args.ends.low = c.are_between.ensures.first c.if-not-are_between.false in
    let last : IsBetween c.args.strip.columns c.most_between-width.result c.args.next = c.are_between.ensures.last c.if-not-are_between.false in
    let width : c.most_between-width.result ≡ most_between c.args.ends.gap = c.most_between-width.ensures.value first.least in
    stays_between c.args.strip.levels c.args.ends.step (most_between c.args.ends.gap) c.args.strip.rows c.args.strip.columns c.args.ends.low c.args.next
    c.requires.ends.begins c.requires.next (rw width at first) (rw width at last)

pub returns-else-not-is_hidden : goal.returns-else-not-is_hidden
returns-else-not-is_hidden c =
    let levels = c.args.strip.levels in
    let rows = c.args.strip.rows in
    let columns = c.args.strip.columns in
    let ends = c.requires.ends in
    let gap = c.args.ends.gap in
    let step = c.args.ends.step in
    let first : IsBetween columns c.most_between-width.result c.args.ends.low = c.are_between.ensures.first c.if-not-are_between.false in
    let last : IsBetween columns c.most_between-width.result c.args.next = c.are_between.ensures.last c.if-not-are_between.false in
    let width : c.most_between-width.result ≡ most_between gap = c.most_between-width.ensures.value first.least in
    let stays : StaysBetween levels step (most_between gap) rows columns =
    stays_between levels step (most_between gap) rows columns c.args.ends.low c.args.next ends.begins c.requires.next (rw width at first) (rw width at last) in
    strip_hidden levels step (most_between gap) rows columns c.args.ends.low c.args.next c.args.color c.args.canvas.now
    (omega (arith, ends.begins.rest)) c.requires.block ends.begins c.requires.next
    (wide_few levels step c.args.canvas.now.width gap rows columns ends.across c.requires.columns ends.apart ends.gap_rest (c.most_between-width.ensures.some first.least) stays)
    (rw width at (c.is_hidden.ensures c.if-not-is_hidden.false))
