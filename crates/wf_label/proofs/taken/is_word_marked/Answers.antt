use Rattle.std.proofs.Common.{◌≡◌, ◌<◌, ◌-◌, ◌*◌, ◌/◌, ◌%◌, ◌^◌, slice_index, bit_and, arith}
use Rattle.wf_paint.proofs.CellsLemmas.{IsMask}
use Rattle.std.proofs.lemmas.Nat.{and_le_r}
use Rattle.wf_label.proofs.MarkLemmas.{word_met, word_unmarked}
use Rattle.wf_label.proofs.taken.is_word_marked.Goals as goal

pub returns-clause-free : goal.returns-clause-free
returns-clause-free c = λ free.
    let mask : IsMask (c.args.start % 64) (c.args.end - 64 * (c.args.start / 64)) c.ones-mask.result =
    record { below = c.ones-mask.ensures.below; within = c.ones-mask.ensures.within; above = c.ones-mask.ensures.above } in
    let none : bit_and (slice_index c.args.marks.now (c.args.start / 64)) c.ones-mask.result ≡ 0 = search arith in
    word_unmarked c.args.marks.now c.args.start c.args.end c.ones-mask.result c.requires.order c.requires.one mask none

pub returns-clause-some : goal.returns-clause-some
returns-clause-some c = λ met.
    let mask : IsMask (c.args.start % 64) (c.args.end - 64 * (c.args.start / 64)) c.ones-mask.result =
    record { below = c.ones-mask.ensures.below; within = c.ones-mask.ensures.within; above = c.ones-mask.ensures.above } in
    let some : 0 < bit_and (slice_index c.args.marks.now (c.args.start / 64)) c.ones-mask.result = search arith in
    let fits : bit_and (slice_index c.args.marks.now (c.args.start / 64)) c.ones-mask.result < 2 ^ 64 =
    omega (arith, and_le_r (slice_index c.args.marks.now (c.args.start / 64)) c.ones-mask.result, c.ones-mask.ensures.fits) in
    word_met c.args.marks.now c.args.start c.args.end c.ones-mask.result c.requires.order c.requires.one mask some fits
