use Rattle.wf_geometry.specs.Operation.{operations}
use Rattle.wf_paint.specs.Canvas.{IsBlank}
use Rattle.wf_paint.proofs.ShownLemmas.{IsPicture-shown}
use Rattle.wf_paint.proofs.painter.paint_after.Goals as goal

pub returns : goal.returns
returns c =
    let view = c.args.view.now in
    let begun : IsBlank view.width view.height c.args.background c.in_ok-canvas.canvas = rw (← c.width.ensures.value, ← c.height.ensures.value) c.in_ok-canvas.ensures in
    IsPicture-shown (operations c.args.map.now c.args.layers.now view) c.args.background view.width view.height c.in_ok-canvas.canvas c.draw_layers.new.canvas c.finish.result
    begun c.in_ok-draw_layers.ensures c.finish.ensures
