use Rattle.std.proofs.Common.{arith}
use Rattle.wf_paint.proofs.CellsLemmas.{cells_kept, range_begins, range_further}
use Rattle.wf_paint.proofs.canvas.paint_range.Goals as goal

pub loop-here-init : goal.loop-here-init
loop-here-init c = (omega arith, (c.requires.order, range_begins c.args.start c.args.color c.args.free.now.items c.args.pixels.now))

pub paint_word-requires-clause-cells : goal.paint_word-requires-clause-cells
paint_word-requires-clause-cells c =
    cells_kept c.args.start c.loop-here.here c.args.color c.args.free.now.items c.args.pixels.now c.loop-here.free.items c.loop-here.pixels
    c.loop-here.invariant.1.1 c.requires.cells

pub loop-here-preserved : goal.loop-here-preserved
loop-here-preserved c = (
  omega (arith, c.loop-here.invariant.0, c.min-next.ensures),
  (
    omega (arith, c.min-next.ensures),
    range_further c.args.start c.args.color c.args.free.now.items c.args.pixels.now c.loop-here.here c.min-next.result
        c.loop-here.free.items c.loop-here.pixels c.paint_word.new.free.items c.paint_word.new.pixels
        c.loop-here.invariant.0 (omega (arith, c.min-next.ensures)) c.loop-here.invariant.1.1 c.paint_word.ensures,
  ),
)
