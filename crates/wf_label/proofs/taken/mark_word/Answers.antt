use Rattle.std.proofs.Common.{◌-◌, ◌*◌, ◌/◌, ◌%◌}
use Rattle.wf_paint.proofs.CellsLemmas.{IsMask}
use Rattle.wf_label.proofs.MarkLemmas.{word_marked}
use Rattle.wf_label.proofs.taken.mark_word.Goals as goal

pub returns : goal.returns
returns c = λ n.
    let mask : IsMask (c.args.start % 64) (c.args.end - 64 * (c.args.start / 64)) c.ones-mask.result =
    record { below = c.ones-mask.ensures.below; within = c.ones-mask.ensures.within; above = c.ones-mask.ensures.above } in
    word_marked c.args.marks.now c.args.start c.args.end c.ones-mask.result c.requires.order c.requires.one mask c.requires.within n
