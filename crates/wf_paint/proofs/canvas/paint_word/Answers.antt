use Rattle.std.proofs.Common.{◌≡◌, ◌<◌, ◌-◌, ◌*◌, ◌/◌, ◌%◌, ◌^◌, slice_index, bit_and, arith}
use Rattle.wf_paint.proofs.CellsLemmas.{IsMask, set_have_bytes, word_covered, word_painted}
use Rattle.wf_paint.proofs.canvas.paint_word.Goals as goal

pub write_set-requires-clause-within : goal.write_set-requires-clause-within
write_set-requires-clause-within c = λ k is.
    let free = c.args.free.now.items in
    let read : c.word_at-left.result ≡ slice_index free (c.args.from / 64) = c.word_at-left.ensures.value in
    let fits : slice_index free (c.args.from / 64) < 2 ^ 64 = omega (arith, c.word_at-left.ensures.fits) in
    set_have_bytes free c.args.pixels.now (c.args.from / 64) c.ones-mask.result k c.requires.cells fits (rw read at is)

pub returns-then-left-mask-ne0 : goal.returns-then-left-mask-ne0
returns-then-left-mask-ne0 c =
    let free = c.args.free.now.items in
    let read : c.word_at-left.result ≡ slice_index free (c.args.from / 64) = c.word_at-left.ensures.value in
    let mask : IsMask (c.args.from % 64) (c.args.to - 64 * (c.args.from / 64)) c.ones-mask.result =
    record { below = c.ones-mask.ensures.below; within = c.ones-mask.ensures.within; above = c.ones-mask.ensures.above } in
    let written = c.write_set.ensures in
    rw read (word_covered free c.args.pixels.now c.args.from c.args.to c.ones-mask.result c.args.color (omega arith) mask c.write_set.new.pixels
    (omega arith) (omega (arith, c.ones-mask.ensures.fits)) (rw read at written))

pub returns-else-left-mask-ne0 : goal.returns-else-left-mask-ne0
returns-else-left-mask-ne0 c =
    let free = c.args.free.now.items in
    let read : c.word_at-left.result ≡ slice_index free (c.args.from / 64) = c.word_at-left.ensures.value in
    let mask : IsMask (c.args.from % 64) (c.args.to - 64 * (c.args.from / 64)) c.ones-mask.result =
    record { below = c.ones-mask.ensures.below; within = c.ones-mask.ensures.within; above = c.ones-mask.ensures.above } in
    let none : bit_and c.word_at-left.result c.ones-mask.result ≡ 0 = omega arith in
    word_painted free c.args.pixels.now c.args.from c.args.to c.ones-mask.result c.args.color (omega arith) mask (rw read at none)
