use Rattle.std.proofs.Common.{◌≡◌, ◌<◌, max, sym, ◌∙◌, arith}
use Rattle.wf_label.proofs.MarkLemmas.{row_fits, row_small}
use Rattle.wf_label.proofs.TakenLemmas.{row_free, row_met, rows_are_in}
use Rattle.wf_label.proofs.taken.meets_marked.Goals as goal

pub loop-row-preserved : goal.loop-row-preserved
loop-row-preserved c =
    let block = c.block_of-block in
    row_free c.args.pixel_box.now block.result.left block.result.right block.result.bottom block.result.top c.args.view.now.width c.args.view.now.height block.ensures.left block.ensures.right block.ensures.wide
    c.args.marks.now c.loop-row.row (omega arith) (rw c.width-width.ensures.value at (c.has_mark.ensures.free c.if-has_mark.false)) c.loop-row.invariant

pub returns-then-has_mark-clause-met : goal.returns-then-has_mark-clause-met
returns-then-has_mark-clause-met c = λ met.
    let block = c.block_of-block in
    row_met c.args.view.now c.args.pixel_box.now c.args.marks.now block.result.left block.result.right block.result.bottom block.result.top c.loop-row.row
    block.ensures.left block.ensures.right block.ensures.bottom block.ensures.top block.ensures.wide block.ensures.tall (omega arith) (omega arith)
    (rw c.width-width.ensures.value at (c.has_mark.ensures.some c.if-has_mark.true))

pub returns-clause-free : goal.returns-clause-free
returns-clause-free c = λ free k m wide high inside.
    let block = c.block_of-block in
    let last : c.loop-row.row ≡ max block.result.top block.result.bottom = omega arith in
    c.loop-row.invariant k m wide high
    (sym (rows_are_in c.args.pixel_box.now block.result.bottom block.result.top c.args.view.now.width c.args.view.now.height block.ensures.bottom block.ensures.top c.loop-row.row k m last high) ∙ inside)

pub has_mark-requires-clause-within : goal.has_mark-requires-clause-within
has_mark-requires-clause-within c =
    let block = c.block_of-block in
    let row_in : c.loop-row.row < c.args.view.now.height = omega (arith, block.ensures.tall) in
    rw (c.requires, c.width-width.ensures.value) (row_fits c.args.view.now.width c.args.view.now.height c.loop-row.row block.result.right row_in block.ensures.wide)

pub has_mark-requires-clause-most : goal.has_mark-requires-clause-most
has_mark-requires-clause-most c =
    let block = c.block_of-block in
    let row_in : c.loop-row.row < c.args.view.now.height = omega (arith, block.ensures.tall) in
    rw c.width-width.ensures.value (row_small c.args.view.now.width c.args.view.now.height c.loop-row.row block.result.right block.ensures.within.width_most block.ensures.within.height_most row_in block.ensures.wide)
