use Rattle.wf_paint.proofs.CellsLemmas.{words_of}
use Rattle.wf_paint.proofs.canvas.free_words.Goals as goal

pub returns-clause-free : goal.returns-clause-free
returns-clause-free c = words_of c.args.area c.in_ok-free.free.items (c.in_ok-free.ensures.items_if_clones_equal (λ y e. e))
