use Rattle.std.proofs.Common.{◌≡◌, ◌-◌, ◌*◌, max, arith}
use Rattle.wf_label.proofs.ColoredLemmas.{IsRun-none, IsRun-end, IsRun-in_row}
use Rattle.wf_label.proofs.fill.fill_row.Goals as goal

pub loop-column-init : goal.loop-column-init
loop-column-init c = IsRun-none _ _ c.args.color c.args.pixmap.now (omega arith)

pub returns : goal.returns
returns c =
    let p = c.args.pixmap.now in
    let start = (c.height.result - 1 - c.args.row) * c.width.result in
    let last : c.loop-column.column ≡ max c.args.right c.args.left = omega arith in
    let run = IsRun-end start c.args.left c.args.right c.loop-column.column c.args.color p c.loop-column.pixmap last c.loop-column.invariant in
    IsRun-in_row c.args.row c.args.left c.args.right c.args.color p c.loop-column.pixmap c.requires.row c.requires.right (rw (c.height.ensures.value, c.width.ensures.value) at run)
