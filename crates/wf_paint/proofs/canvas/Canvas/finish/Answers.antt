use Rattle.std.proofs.Common.{◌≡◌}
use Rattle.wf_paint.specs.Canvas.{CanvasValue}
use Rattle.wf_paint.proofs.CanvasLemmas.{canvas_finished}
use Rattle.wf_paint.proofs.canvas.Canvas.finish.Goals as goal

pub returns : goal.returns
returns c =
    let here : CanvasValue = record { width = c.self.inside.width; height = c.self.inside.height; background = c.self.inside.background; bytes = c.self.inside.pixels; free = c.self.inside.free.items; known = c.self.inside.known; blocks = c.self.inside.blocks.items } in
    let same : c.args.self ≡ here = cc in
    rw (same, c.of.ensures) (canvas_finished here c.self.invariant)
