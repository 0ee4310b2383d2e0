use Rattle.std.proofs.Common.{arith}
use Rattle.wf_geometry.specs.Operation.{part_squares, squares}
use Rattle.wf_paint.proofs.ShownLemmas.{IsShown-begin, IsShown-more, IsShown-end}
use Rattle.wf_paint.proofs.painter.draw_squares.Goals as goal

pub loop-index-init : goal.loop-index-init
loop-index-init c = IsShown-begin (part_squares c.args.view.now c.args.style.now) c.args.parts.now c.args.canvas.now

pub loop-index-preserved : goal.loop-index-preserved
loop-index-preserved c = IsShown-more (part_squares c.args.view.now c.args.style.now) c.args.parts.now c.loop-index.index c.index-parts-index.result c.index-parts-index.result c.args.canvas.now c.loop-index.canvas _ (omega arith) (omega arith) c.index-parts-index.is c.loop-index.invariant (rw (← c.as_slice.ensures.value) c.draw_part_squares.ensures)

pub returns : goal.returns
unfolding squares
returns c = IsShown-end (part_squares c.args.view.now c.args.style.now) c.args.parts.now c.loop-index.index c.args.canvas.now c.loop-index.canvas (omega arith) c.loop-index.invariant
