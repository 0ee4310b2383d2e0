use Rattle.std.proofs.Common.{◌≡◌, slice_index, arith}
use Rattle.wf_paint.proofs.CellsLemmas.{passed_word, word_free}
use Rattle.wf_paint.proofs.canvas.first_free.Goals as goal

pub returns-then-bits-ne0-clause-free : goal.returns-then-bits-ne0-clause-free
returns-then-bits-ne0-clause-free c = λ within.
    let free = c.args.free.now.items in
    let read : c.word_at-bits.result ≡ slice_index free c.loop-here.here = c.word_at-bits.ensures.value in
    word_free free c.loop-here.here (omega arith) (omega (arith, c.word_at-bits.ensures.fits))

pub loop-here-preserved : goal.loop-here-preserved
loop-here-preserved c =
    let free = c.args.free.now.items in
    let read : c.word_at-bits.result ≡ slice_index free c.loop-here.here = c.word_at-bits.ensures.value in
    (omega arith, passed_word free c.loop-here.here (omega arith) c.loop-here.invariant.1)
