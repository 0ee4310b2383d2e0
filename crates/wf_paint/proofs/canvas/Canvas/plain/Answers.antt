use Rattle.wf_paint.proofs.CanvasLemmas.{blank_pixels, canvas_begins}
use Rattle.wf_paint.proofs.canvas.Canvas.plain.Goals as goal

pub invariant_of-result : goal.invariant_of-result
invariant_of-result c =
    canvas_begins c.args.width c.args.height c.args.background c.in_ok-plain.field-0 c.in_ok-free_words.field-0.items c.in_ok-blocks.blocks.items
    c.requires.width_least c.requires.width_most c.requires.height_least c.requires.height_most
    c.in_ok-plain.ensures c.in_ok-free_words.ensures.size c.in_ok-free_words.ensures.free (c.in_ok-blocks.ensures.items_if_clones_equal (λ y e. e))

pub returns : goal.returns
returns c = blank_pixels c.args.width c.args.height c.args.background c.in_ok-plain.field-0 c.in_ok-free_words.field-0.items c.in_ok-blocks.blocks.items c.in_ok-free_words.ensures.free
