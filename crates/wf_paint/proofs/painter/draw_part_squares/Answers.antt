use Rattle.std.proofs.Common.{arith}
use Rattle.wf_geometry.specs.Operation.{in_color, SquareOf, part_squares}
use Rattle.wf_geometry.specs.View.{position_of}
use Rattle.wf_paint.proofs.ShownLemmas.{IsShown-begin, IsShown-more, IsShown-end}
use Rattle.wf_paint.proofs.painter.draw_part_squares.Goals as goal

pub loop-index-init : goal.loop-index-init
loop-index-init c = IsShown-begin (λ point. in_color (SquareOf c.args.style.now.size (position_of c.args.view.now point)) c.args.style.now.color) c.args.points.now c.args.canvas.now

pub loop-index-preserved : goal.loop-index-preserved
loop-index-preserved c = IsShown-more (λ point. in_color (SquareOf c.args.style.now.size (position_of c.args.view.now point)) c.args.style.now.color) c.args.points.now c.loop-index.index c.index-points-index.result c.index-points-index.result c.args.canvas.now c.loop-index.canvas _ (omega arith) (omega arith) c.index-points-index.is c.loop-index.invariant (rw (← c.get.ensures.value, ← c.position.ensures) c.draw_about.ensures)

pub returns : goal.returns
unfolding part_squares
returns c = IsShown-end (λ point. in_color (SquareOf c.args.style.now.size (position_of c.args.view.now point)) c.args.style.now.color) c.args.points.now c.loop-index.index c.args.canvas.now c.loop-index.canvas (omega arith) c.loop-index.invariant
