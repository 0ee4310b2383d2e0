use Rattle.std.proofs.Common.{◌≡◌}
use Rattle.wf_paint.specs.Canvas.{CanvasValue}
use Rattle.wf_paint.proofs.CanvasLemmas.{blocks_alike, canvas_blocks, canvas_sized}
use Rattle.wf_paint.proofs.canvas.Canvas.find_painted_blocks.Goals as goal

pub clear_painted-requires-clause-size : goal.clear_painted-requires-clause-size
clear_painted-requires-clause-size c =
    let here : CanvasValue = record { width = c.self.inside.width; height = c.self.inside.height; background = c.self.inside.background; bytes = c.self.inside.pixels; free = c.self.inside.free.items; known = c.self.inside.known; blocks = c.self.inside.blocks.items } in
    canvas_sized here c.self.invariant

pub invariant_of-self : goal.invariant_of-self
invariant_of-self c =
    let here : CanvasValue = record { width = c.self.inside.width; height = c.self.inside.height; background = c.self.inside.background; bytes = c.self.inside.pixels; free = c.self.inside.free.items; known = c.self.inside.known; blocks = c.self.inside.blocks.items } in
    canvas_blocks here c.clear_painted.new.blocks.items c.self.invariant c.clear_painted.ensures

pub returns : goal.returns
returns c =
    let here : CanvasValue = record { width = c.self.inside.width; height = c.self.inside.height; background = c.self.inside.background; bytes = c.self.inside.pixels; free = c.self.inside.free.items; known = c.self.inside.known; blocks = c.self.inside.blocks.items } in
    let same : c.args.self.now ≡ here = cc in
    rw same (blocks_alike here c.clear_painted.new.blocks.items)
