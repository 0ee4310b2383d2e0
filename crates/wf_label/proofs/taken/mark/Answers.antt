use Rattle.std.proofs.Common.{◌≡◌, ◌<◌, ◌+◌, ◌*◌, ◌||◌, Bool, length, max, sym, ap, ◌∙◌, arith, rules}
use Rattle.wf_label.specs.Taken.{is_marked}
use Rattle.wf_label.proofs.MarkLemmas.{row_fits, row_small}
use Rattle.wf_label.proofs.TakenLemmas.{row_marked, rows_are_in}
use Rattle.wf_label.proofs.taken.mark.Goals as goal

pub loop-row-preserved : goal.loop-row-preserved
loop-row-preserved c = λ k m wide high.
    let f = c.args.pixel_box.now in
    let w = c.args.view.now.width in
    let block = c.block_of-block in
    row_marked f block.result.left block.result.right block.result.bottom block.result.top w c.args.view.now.height block.ensures.left block.ensures.right block.ensures.wide
    c.loop-row.row k m (is_marked c.mark_run.new.marks (m * w + k)) (is_marked c.loop-row.marks (m * w + k)) (is_marked c.args.marks.now (m * w + k)) (omega arith) wide
    (c.loop-row.invariant k m wide high) (rw c.width-width.ensures.value at (c.mark_run.ensures (m * w + k)))

pub returns : goal.returns
returns c = λ k m wide high.
    let f = c.args.pixel_box.now in
    let w = c.args.view.now.width in
    let block = c.block_of-block in
    let last : c.loop-row.row ≡ max block.result.top block.result.bottom = omega arith in
    c.loop-row.invariant k m wide high
    ∙ ap (λ (t : Bool). t || is_marked c.args.marks.now (m * w + k))
    (sym (rows_are_in f block.result.bottom block.result.top w c.args.view.now.height block.ensures.bottom block.ensures.top c.loop-row.row k m last high))

pub mark_run-requires-clause-within : goal.mark_run-requires-clause-within
mark_run-requires-clause-within c =
    let block = c.block_of-block in
    let row_in : c.loop-row.row < c.args.view.now.height = omega (arith, block.ensures.tall) in
    let same : length c.loop-row.marks ≡ length c.args.marks.now = search rules in
    rw (same, c.requires, c.width-width.ensures.value) (row_fits c.args.view.now.width c.args.view.now.height c.loop-row.row block.result.right row_in block.ensures.wide)

pub mark_run-requires-clause-most : goal.mark_run-requires-clause-most
mark_run-requires-clause-most c =
    let block = c.block_of-block in
    let row_in : c.loop-row.row < c.args.view.now.height = omega (arith, block.ensures.tall) in
    rw c.width-width.ensures.value (row_small c.args.view.now.width c.args.view.now.height c.loop-row.row block.result.right block.ensures.within.width_most block.ensures.within.height_most row_in block.ensures.wide)
