use Rattle.std.proofs.Common.{◌≡◌, slice_index, eqb-true}
use Rattle.wf_paint.proofs.BlockLemmas.{columns_clear}
use Rattle.wf_paint.proofs.canvas.are_painted.Goals as goal

pub returns : goal.returns
returns c = λ is.
    let read : c.word_at.result ≡ slice_index c.args.blocks.now.items c.args.index = c.word_at.ensures.value in
    columns_clear (slice_index c.args.blocks.now.items c.args.index) c.ones-mask.result c.args.from c.args.to c.ones-mask.ensures.within (rw read at (eqb-true _ _ is))
