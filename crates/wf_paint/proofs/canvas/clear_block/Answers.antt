use Rattle.std.proofs.Common.{◌≡◌, slice_index, arith}
use Rattle.wf_paint.proofs.BlockLemmas.{block_cleared}
use Rattle.wf_paint.proofs.canvas.clear_block.Goals as goal

pub returns-then-is_block_painted : goal.returns-then-is_block_painted
returns-then-is_block_painted c =
    let read : c.word_at-word.result ≡ slice_index c.args.blocks.now.items c.args.index = c.word_at-word.ensures.value in
    rw read (block_cleared c.args.width c.args.height c.args.free.now.items c.args.blocks.now.items c.args.index c.args.block c.ones-mask.result
    c.requires.index c.requires.block c.requires.size.width_most (omega (arith, c.ones-mask.ensures.fits)) c.ones-mask.ensures.below c.ones-mask.ensures.above
    (c.is_block_painted.ensures c.if-is_block_painted.true) c.requires.blocks)
