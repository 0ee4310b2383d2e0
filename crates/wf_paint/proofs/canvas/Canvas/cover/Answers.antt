use Rattle.std.proofs.Common.{◌≡◌, arith}
use Rattle.wf_paint.specs.Canvas.{CanvasValue}
use Rattle.wf_paint.proofs.CanvasLemmas.{canvas_covered, run_colored, run_empty}
use Rattle.wf_paint.proofs.CellsLemmas.{painted_already}
use Rattle.wf_paint.proofs.canvas.Canvas.cover.Goals as goal

pub invariant_of-self : goal.invariant_of-self
invariant_of-self c =
    let here : CanvasValue = record { width = c.self.inside.width; height = c.self.inside.height; background = c.self.inside.background; bytes = c.self.inside.pixels; free = c.self.inside.free.items; known = c.self.inside.known; blocks = c.self.inside.blocks.items } in
    canvas_covered here c.args.row c.args.from c.args.to c.args.color c.paint_range.new.free.items c.paint_range.new.pixels _ _ c.self.invariant c.paint_range.ensures

pub returns-then-not-is_range_painted : goal.returns-then-not-is_range_painted
returns-then-not-is_range_painted c =
    let here : CanvasValue = record { width = c.self.inside.width; height = c.self.inside.height; background = c.self.inside.background; bytes = c.self.inside.pixels; free = c.self.inside.free.items; known = c.self.inside.known; blocks = c.self.inside.blocks.items } in
    let same : c.args.self.now ≡ here = cc in
    let within = rw same at c.requires.row_within in
    let inside = rw same at c.requires.to_within in
    rw same (run_colored here c.args.row c.args.from c.args.to c.args.color c.paint_range.new.free.items c.paint_range.new.pixels
    c.self.invariant within inside c.paint_range.ensures)

pub returns-else-not-is_range_painted : goal.returns-else-not-is_range_painted
returns-else-not-is_range_painted c =
    let here : CanvasValue = record { width = c.self.inside.width; height = c.self.inside.height; background = c.self.inside.background; bytes = c.self.inside.pixels; free = c.self.inside.free.items; known = c.self.inside.known; blocks = c.self.inside.blocks.items } in
    let same : c.args.self.now ≡ here = cc in
    let within = rw same at c.requires.row_within in
    let inside = rw same at c.requires.to_within in
    rw same (run_colored here c.args.row c.args.from c.args.to c.args.color here.free here.bytes
    c.self.invariant within inside (painted_already _ _ c.args.color here.free here.bytes (c.is_range_painted.ensures c.if-not-is_range_painted.false)))

pub returns-else-from-to : goal.returns-else-from-to
returns-else-from-to c = run_empty c.args.self.now c.args.row c.args.from c.args.to c.args.color c.args.self.now.free c.args.self.now.bytes (omega arith)
