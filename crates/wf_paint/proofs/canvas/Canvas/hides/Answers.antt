use Rattle.std.proofs.Common.{◌≡◌, ◌+◌, ◌-◌, ◌/◌, ◌%◌, arith}
use Rattle.wf_paint.specs.Canvas.{CanvasValue}
use Rattle.wf_paint.proofs.CanvasLemmas.{box_painted}
use Rattle.wf_paint.proofs.canvas.Canvas.hides.Goals as goal

pub returns-then-are_painted : goal.returns-then-are_painted
returns-then-are_painted c = λ is.
    let here : CanvasValue = record { width = c.self.inside.width; height = c.self.inside.height; background = c.self.inside.background; bytes = c.self.inside.pixels; free = c.self.inside.free.items; known = c.self.inside.known; blocks = c.self.inside.blocks.items } in
    let same : c.args.self.now ≡ here = cc in
    let within = rw same at c.requires.row_within in
    let inside = rw same at c.requires.to_within in
    rw same (box_painted here c.args.row c.args.from c.args.to (c.args.row / 16 + (c.args.row % 16 + 16 - 1) / 16) (omega arith) c.self.invariant within inside (c.are_painted.ensures c.if-are_painted.true) (c.are_painted-then-are_painted.ensures is))
