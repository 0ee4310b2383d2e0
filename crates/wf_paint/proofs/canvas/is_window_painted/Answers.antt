use Rattle.std.proofs.Common.{◌≡◌, ◌-◌, ◌/◌, slice_index, eqb-true, arith}
use Rattle.wf_paint.proofs.WindowLemmas.{window_painted}
use Rattle.wf_paint.proofs.canvas.is_window_painted.Goals as goal

pub returns : goal.returns
returns c = λ is.
    let free = c.args.free.now.items in
    let first : c.word_at-first.result ≡ slice_index free (c.args.start / 64) = c.word_at-first.ensures.value in
    let last : c.word_at-last.result ≡ slice_index free ((c.args.end - 1) / 64) = c.word_at-last.ensures.value in
    window_painted free c.args.start c.args.end c.word_across.result c.requires.order (omega arith)
    (rw first at c.word_across.ensures.first) (rw last at c.word_across.ensures.last) (eqb-true _ _ is)
